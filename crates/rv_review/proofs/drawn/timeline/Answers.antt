use Rattle.std.proofs.Common.{subst}
use Rattle.std.specs.Prelude.{IfSome, true}
use Rattle.rv_timeline.specs.Timelines.{timeline_text}
use Rattle.rv_timeline.specs.declared.timeline.Wish.{Wish}
use Rattle.rv_verdict.specs.Audits.{AuditsScript}
use Rattle.rv_review.specs.Reviews.{ReviewsSection}
use Rattle.rv_review.proofs.drawn.timeline.Goals as goal

pub returns : goal.returns
returns g c =
    subst (λ (wish : Wish). IfSome (g.R.Read.remaining c.args.reader.now) (λ script. AuditsScript true (ReviewsSection (timeline_text wish)) (g.W.Write.contents c.args.writer.now) (g.W.Write.contents c.review.new.writer) script c.review.result)) c.new-observer.ensures.wish
    (c.review.ensures (λ limits units. c.new-observer.ensures.begins limits))
