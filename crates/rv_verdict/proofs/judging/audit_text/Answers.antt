use Rattle.std.proofs.Common.{ℕ, List, subst, true}
use Rattle.std.proofs.lemmas.Result.{err_from_is_err_and}
use Rattle.rv_shape.specs.Shape.{Shape}
use Rattle.rv_script.specs.UnitTexts.{without_returns}
use Rattle.rv_verdict.specs.Audits.{SaysOf, SaysOfSection}
use Rattle.rv_verdict.specs.Brought.{Brought}
use Rattle.rv_verdict.proofs.Telling.{section_never}
use Rattle.rv_verdict.proofs.Wholly.{nothing_brought, said_of}
use Rattle.rv_verdict.proofs.judging.audit_text.Goals as goal

pub returns-in_err-limits : goal.returns-in_err-limits
returns-in_err-limits g c =
    let p = err_from_is_err_and c.from_residual.result c.from_residual.ensures.1 in
    rw (p.1, p.2) (nothing_brought true SaysOfSection (g.W.Write.contents c.args.writer.now) c.args.text.now _ c.in_err-limits.ensures)

pub returns : goal.returns
returns g c =
    let old = g.W.Write.contents c.args.writer.now in
    let new = g.W.Write.contents c.audit_section.new.writer in
    let it : Brought = record { limits = c.in_ok-limits.limits; units = c.in_ok-limits.given.units; journal = c.in_ok-limits.given.journal } in
    said_of true SaysOfSection old new c.args.text.now it c.audit_section.result section_never c.in_ok-limits.ensures.1
    (subst (λ (units : List Shape). SaysOf old new c.in_ok-limits.limits units (without_returns c.in_ok-limits.given.journal) c.audit_section.result) c.units.ensures
    (subst (λ (journal : List ℕ). SaysOf old new c.in_ok-limits.limits c.units.result.now (without_returns journal) c.audit_section.result) c.journal.ensures c.audit_section.ensures))
