use Rattle.std.proofs.Common.{subst, ℕ}
use Rattle.std.specs.Prelude.{IfSome, true}
use Rattle.rv_state.specs.States.{state_text}
use Rattle.rv_verdict.specs.Audits.{AuditsScript}
use Rattle.rv_review.specs.Reviews.{ReviewsSection}
use Rattle.rv_review.proofs.stated.state.Goals as goal

pub returns : goal.returns
returns g c =
    subst (λ (number : ℕ). IfSome (g.R.Read.remaining c.args.reader.now) (λ script. AuditsScript true (ReviewsSection (state_text number)) (g.W.Write.contents c.args.writer.now) (g.W.Write.contents c.review.new.writer) script c.review.result)) c.new-observer.ensures.number
    (c.review.ensures (λ limits units. c.new-observer.ensures.begins limits))
