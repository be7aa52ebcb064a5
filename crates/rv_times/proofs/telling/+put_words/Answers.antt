use Rattle.std.proofs.Common.{Bool, Some, None, ◌++◌, ap, ◌∙◌, arith}
use Rattle.std.specs.Prelude.{string_bytes}
use Rattle.std.specs.List.{slice_split}
use Rattle.std.proofs.lemmas.Result.{on_ok_weaker}
use Rattle.std.proofs.lemmas.Str.Pattern.{split_once_first}
use Rattle.rv_text.proofs.FirstParts.{split_whole}
use Rattle.rv_times.specs.Telling.{is_space, timed_words}
use Rattle.rv_times.proofs.Cutting.{cut_at, words_last, words_more}
use Rattle.rv_times.proofs.telling.+put_words.Goals as goal

pub returns-in_ok-put_word-in-Some : goal.returns-in_ok-put_word-in-Some
returns-in_ok-put_word-in-Some t c =
    let parts = split_once_first 32 c.args.words.now (Some (c.in-Some.word, c.in-Some.others)) c.in-Some.ensures.cases (omega arith) in
    on_ok_weaker c.put_words.result
    (λ put. words_more c.args.times.now c.args.is_entry (string_bytes c.args.text.now) _ _ _ c.args.words.now c.in-Some.word.now c.in-Some.others.now
    (cut_at is_space c.args.words.now c.in-Some.word.now c.in-Some.others.now parts.0 parts.1 parts.2) c.in_ok-push_str.ensures.bytes c.in_ok-put_word-in-Some.ensures
    (put ∙ ap (λ (b : Bool). string_bytes c.put_word.new.text ++ timed_words c.args.times.now b (slice_split is_space c.in-Some.others.now)) c.names_entry.ensures))
    c.put_words.ensures

pub returns-in-None : goal.returns-in-None
returns-in-None t c =
    let none = split_once_first 32 c.args.words.now None c.in-None.ensures.cases (omega arith) in
    on_ok_weaker c.put_word-in-None.result
    (λ put. words_last c.args.times.now c.args.is_entry (string_bytes c.args.text.now) _ _ c.args.words.now (split_whole is_space c.args.words.now none) c.in_ok-push_str.ensures.bytes put) c.put_word-in-None.ensures
