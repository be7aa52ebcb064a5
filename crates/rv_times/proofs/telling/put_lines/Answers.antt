use Rattle.std.proofs.Common.{Some, None, arith, rules}
use Rattle.std.specs.Prelude.{string_bytes}
use Rattle.std.proofs.lemmas.Result.{on_ok_weaker}
use Rattle.std.proofs.lemmas.Str.Pattern.{split_once_first}
use Rattle.rv_text.proofs.FirstParts.{split_whole}
use Rattle.rv_times.specs.Telling.{is_feed}
use Rattle.rv_times.proofs.Cutting.{cut_at, lines_last, lines_step}
use Rattle.rv_times.proofs.telling.put_lines.Goals as goal

pub loop-line-preserved : goal.loop-line-preserved
loop-line-preserved c =
    let parts = split_once_first 10 c.loop-line.rest.now (Some (c.in-Some.line, c.in-Some.others)) c.in-Some.ensures.cases (omega arith) in (
      search rules,
      lines_step c.args.is_json c.args.times.now _ (string_bytes c.loop-line.text) _ _ c.loop-line.rest.now c.in-Some.line.now c.in-Some.others.now
          (cut_at is_feed c.loop-line.rest.now c.in-Some.line.now c.in-Some.others.now parts.0 parts.1 parts.2) c.in_ok-push_str.ensures.bytes c.in_ok-put_as.ensures c.loop-line.invariant.1,
    )

pub returns : goal.returns
returns c =
    let none = split_once_first 10 c.loop-line.rest.now None c.in_default.ensures.cases (omega arith) in
    on_ok_weaker c.put_as-2.result
    (λ put. lines_last c.args.is_json c.args.times.now _ (string_bytes c.loop-line.text) _ _ c.loop-line.rest.now (split_whole is_feed c.loop-line.rest.now none) c.in_ok-push_str-2.ensures.bytes put c.loop-line.invariant.1)
    c.put_as-2.ensures
