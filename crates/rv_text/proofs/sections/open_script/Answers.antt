use Rattle.std.proofs.Common.{true, sym, ap, ◌∙◌, arith}
use Rattle.rv_text.specs.Sections.{front_len, lines_ended}
use Rattle.rv_text.proofs.NextAt.{cuts_at, front_boundary}
use Rattle.rv_text.proofs.NextSection.{front_len_again, opened}
use Rattle.rv_text.proofs.sections.open_script.Goals as goal

pub split_at-requires : goal.split_at-requires
split_at-requires c = rw (c.front_len.ensures.value, c.as_bytes.ensures.value) (front_boundary c.args.script.now)

pub invariant_of-result : goal.invariant_of-result
invariant_of-result c =
    let script = c.args.script.now in (
      rw (c.split_at.ensures.back, c.front_len.ensures.value, c.as_bytes.ensures.value) (front_len_again true script),
      omega (arith, c.lines_ended-line.ensures.within, c.requires),
    )

pub returns-clause-front : goal.returns-clause-front
returns-clause-front c =
    rw (c.split_at.ensures.front, c.front_len.ensures.value, c.as_bytes.ensures.value) (sym (cuts_at true c.args.script.now).front)

pub returns-clause-sections : goal.returns-clause-sections
returns-clause-sections c =
    opened c.args.script.now c.split_at.result.0.now c.split_at.result.1.now c.front_len.result c.lines_ended-line.result
    (c.front_len.ensures.value ∙ ap (front_len true) c.as_bytes.ensures.value) c.split_at.ensures.front c.split_at.ensures.back
    (c.lines_ended-line.ensures.value ∙ ap lines_ended c.as_bytes-2.ensures.value)
