use Rattle.std.proofs.Common.{subst, ℕ}
use Rattle.std.specs.Prelude.{IfSome, false}
use Rattle.rv_explained.specs.Explanations.{explanation}
use Rattle.rv_verdict.specs.Audits.{AuditsScript}
use Rattle.rv_review.specs.Reviews.{ReviewsFile}
use Rattle.rv_review.proofs.explained.explain_file.Goals as goal

pub returns : goal.returns
returns g c =
    subst (λ (number : ℕ). IfSome (g.R.Read.remaining c.args.reader.now) (λ script. AuditsScript false (ReviewsFile (explanation number) (g.J.Read.remaining c.args.journal.now) c.args.takes_torn) (g.W.Write.contents c.args.writer.now) (g.W.Write.contents c.review_file.new.writer) script c.review_file.result)) c.new-observer.ensures.entry
    (c.review_file.ensures (λ limits units. c.new-observer.ensures.begins limits))
