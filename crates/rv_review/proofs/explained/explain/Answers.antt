use Rattle.std.proofs.Common.{subst, ℕ}
use Rattle.std.specs.Prelude.{IfSome, true}
use Rattle.rv_explained.specs.Explanations.{explanation}
use Rattle.rv_verdict.specs.Audits.{AuditsScript}
use Rattle.rv_review.specs.Reviews.{ReviewsSection}
use Rattle.rv_review.proofs.explained.explain.Goals as goal

pub returns : goal.returns
returns g c =
    subst (λ (number : ℕ). IfSome (g.R.Read.remaining c.args.reader.now) (λ script. AuditsScript true (ReviewsSection (explanation number)) (g.W.Write.contents c.args.writer.now) (g.W.Write.contents c.review.new.writer) script c.review.result)) c.new-observer.ensures.entry
    (c.review.ensures (λ limits units. c.new-observer.ensures.begins limits))
