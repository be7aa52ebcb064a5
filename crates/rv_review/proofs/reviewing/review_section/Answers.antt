use Rattle.std.proofs.Common.{Some, refl}
use Rattle.std.specs.Prelude.{false}
use Rattle.std.proofs.lemmas.Result.{err_from_is_err_and}
use Rattle.rv_script.specs.UnitTexts.{without_returns}
use Rattle.rv_fault.specs.declared.failure.Failure.TheVariants.{Memory}
use Rattle.rv_review.proofs.Judged.{fails_first}
use Rattle.rv_review.proofs.reviewing.review_section.Goals as goal

pub returns-in_err-journal : goal.returns-in_err-journal
returns-in_err-journal g c = λ begins.
    let p = err_from_is_err_and c.from_residual.result c.from_residual.ensures.1 in
    rw (p.1, p.2) (fails_first (g.O.Review.says c.args.observer) (Some (without_returns c.args.journal.now)) false (g.W.Write.contents c.args.writer.now) c.args.limits c.args.units.now Memory refl)
