use Rattle.std.proofs.Common.{subst}
use Rattle.std.specs.Prelude.{IfSome, false}
use Rattle.rv_timeline.specs.Timelines.{timeline_text}
use Rattle.rv_timeline.specs.declared.timeline.Wish.{Wish}
use Rattle.rv_verdict.specs.Audits.{AuditsScript}
use Rattle.rv_review.specs.Reviews.{ReviewsFile}
use Rattle.rv_review.proofs.drawn.timeline_file.Goals as goal

pub returns : goal.returns
returns g c =
    subst (λ (wish : Wish). IfSome (g.R.Read.remaining c.args.reader.now) (λ script. AuditsScript false (ReviewsFile (timeline_text wish) (g.J.Read.remaining c.args.journal.now) c.args.takes_torn) (g.W.Write.contents c.args.writer.now) (g.W.Write.contents c.review_file.new.writer) script c.review_file.result)) c.new-observer.ensures.wish
    (c.review_file.ensures (λ limits units. c.new-observer.ensures.begins limits))
