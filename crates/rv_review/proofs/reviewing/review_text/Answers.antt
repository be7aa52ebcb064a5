use Rattle.std.proofs.Common.{ℕ, List, Some, subst, true, false}
use Rattle.rv_shape.specs.Shape.{Shape}
use Rattle.rv_script.specs.UnitTexts.{without_returns}
use Rattle.rv_verdict.specs.Brought.{Brought}
use Rattle.rv_verdict.proofs.Wholly.{said_of}
use Rattle.rv_review.specs.Reviews.{Reviews, ReviewsSection}
use Rattle.rv_review.proofs.Judged.{never_section}
use Rattle.rv_review.proofs.reviewing.review_text.Goals as goal

pub returns : goal.returns
returns g c = λ begins.
    let says = g.O.Review.says c.args.observer in
    let old = g.W.Write.contents c.args.writer.now in
    let new = g.W.Write.contents c.review_section.new.writer in
    let it : Brought = record { limits = c.in_ok-limits.limits; units = c.in_ok-limits.given.units; journal = c.in_ok-limits.given.journal } in
    said_of true (ReviewsSection says) old new c.args.text.now it c.review_section.result (never_section says) c.in_ok-limits.ensures.1
    (subst (λ (units : List Shape). Reviews says (Some (without_returns c.in_ok-limits.given.journal)) false old new c.in_ok-limits.limits units c.review_section.result) c.units.ensures
    (subst (λ (journal : List ℕ). Reviews says (Some (without_returns journal)) false old new c.in_ok-limits.limits c.units.result.now c.review_section.result) c.journal.ensures (c.review_section.ensures (begins c.in_ok-limits.limits c.units.result.now))))
