use Rattle.std.proofs.Common.{Some, None, arith}
use Rattle.std.specs.Prelude.{string_bytes}
use Rattle.std.proofs.lemmas.Result.{on_ok_weaker}
use Rattle.std.proofs.lemmas.Str.Pattern.{split_once_first}
use Rattle.rv_text.proofs.FirstParts.{split_whole}
use Rattle.rv_times.specs.Telling.{is_feed}
use Rattle.rv_times.proofs.Cutting.{all_cut, all_whole, cut_at}
use Rattle.rv_times.proofs.telling.put_all.Goals as goal

pub returns-in_ok-put_as-in-Some : goal.returns-in_ok-put_as-in-Some
returns-in_ok-put_as-in-Some c =
    let parts = split_once_first 10 c.args.told.now (Some (c.in-Some.line, c.in-Some.lines)) c.in-Some.ensures.cases (omega arith) in
    on_ok_weaker c.put_lines.result
    (λ put. all_cut c.args.is_json c.args.times.now (string_bytes c.args.text.now) _ _ c.args.told.now c.in-Some.line.now c.in-Some.lines.now
    (cut_at is_feed c.args.told.now c.in-Some.line.now c.in-Some.lines.now parts.0 parts.1 parts.2) c.in_ok-put_as-in-Some.ensures put) c.put_lines.ensures

pub returns-in-None : goal.returns-in-None
returns-in-None c =
    let none = split_once_first 10 c.args.told.now None c.in-None.ensures.cases (omega arith) in
    on_ok_weaker c.put_as-in-None.result
    (λ put. all_whole c.args.is_json c.args.times.now (string_bytes c.args.text.now) _ c.args.told.now (split_whole is_feed c.args.told.now none) put) c.put_as-in-None.ensures
