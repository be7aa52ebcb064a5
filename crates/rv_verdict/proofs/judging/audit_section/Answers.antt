use Rattle.std.proofs.Common.{◌≡◌, ◌∙◌, ℕ, List, Err, Ok, subst}
use Rattle.std.proofs.lemmas.Result.{err_from_is_err_and}
use Rattle.rv_script.specs.UnitTexts.{without_returns}
use Rattle.rv_fault.specs.declared.failure.Failure.TheVariants.{Memory}
use Rattle.rv_verdict.specs.Audits.{SaysOf}
use Rattle.rv_verdict.proofs.EndsSaid.{failed_whole, said_whole}
use Rattle.rv_verdict.proofs.Telling.{section_fails}
use Rattle.rv_verdict.proofs.judging.audit_section.Goals as goal

pub returns-in_err-journal : goal.returns-in_err-journal
returns-in_err-journal g c =
    let p = err_from_is_err_and c.from_residual.result c.from_residual.ensures.1 in
    rw (p.1, p.2) (section_fails (g.W.Write.contents c.args.writer.now) c.args.limits c.args.units.now (without_returns c.args.journal.now) Memory tt)

pub returns-in_err-audited : goal.returns-in_err-audited
returns-in_err-audited g c =
    let p = err_from_is_err_and c.from_residual-in_err-audited.result c.from_residual-in_err-audited.ensures.1 in
    let old = g.W.Write.contents c.args.writer.now in
    let new = g.W.Write.contents c.audit_lines.new.writer in
    let text = c.as_bytes-bytes.result.now in
    let is : text ≡ without_returns c.args.journal.now = c.as_bytes-bytes.ensures.value ∙ c.in_ok-journal.ensures in
    let failure = c.in_err-audited.field-0.0 in
    rw (p.1, p.2) (subst (λ (bytes : List ℕ). SaysOf old new c.args.limits c.args.units.now bytes (Err failure)) is (failed_whole text old new c.args.limits c.args.units.now failure c.in_err-audited.ensures.says))

pub returns : goal.returns
returns g c =
    let old = g.W.Write.contents c.args.writer.now in
    let new = g.W.Write.contents c.audit_lines.new.writer in
    let text = c.as_bytes-bytes.result.now in
    let is : text ≡ without_returns c.args.journal.now = c.as_bytes-bytes.ensures.value ∙ c.in_ok-journal.ensures in
    let told = c.in_ok-audited.audited in
    subst (λ (bytes : List ℕ). SaysOf old new c.args.limits c.args.units.now bytes (Ok told.is_legal)) is (said_whole text old new c.args.limits c.args.units.now told c.in_ok-audited.ensures.says)
