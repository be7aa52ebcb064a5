use Rattle.std.proofs.Common.{Some, None, arith, rules}
use Rattle.std.specs.Prelude.{string_bytes}
use Rattle.std.proofs.lemmas.Result.{on_ok_weaker}
use Rattle.std.proofs.lemmas.Str.Pattern.{split_once_first}
use Rattle.rv_text.proofs.FirstParts.{split_whole}
use Rattle.rv_times.specs.Telling.{is_space}
use Rattle.rv_times.proofs.Cutting.{cut_at, line_cut, line_whole}
use Rattle.rv_times.proofs.telling.put_line.Goals as goal

pub returns-in_ok-put_word-in-Some : goal.returns-in_ok-put_word-in-Some
returns-in_ok-put_word-in-Some c =
    let parts = split_once_first 32 c.args.line.now (Some (c.in-Some.word, c.in-Some.words)) c.in-Some.ensures.cases (omega arith) in
    on_ok_weaker c.put_words.result
    (λ put. line_cut c.args.times.now (string_bytes c.args.text.now) _ _ c.args.line.now c.in-Some.word.now c.in-Some.words.now c.is_of_list.result c.names_entry.result
    (cut_at is_space c.args.line.now c.in-Some.word.now c.in-Some.words.now parts.0 parts.1 parts.2) c.is_of_list.ensures c.names_entry.ensures c.in_ok-put_word-in-Some.ensures put) c.put_words.ensures

pub returns-in-None : goal.returns-in-None
returns-in-None c =
    let none = split_once_first 32 c.args.line.now None c.in-None.ensures.cases (omega arith) in
    let said = c.push_str.ensures.bytes in
    on_ok_weaker c.push_str.result
    (λ put. line_whole c.args.times.now (string_bytes c.args.text.now) _ c.args.line.now (split_whole is_space c.args.line.now none) put) (search rules)
