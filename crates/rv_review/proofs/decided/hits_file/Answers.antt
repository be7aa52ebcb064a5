use Rattle.std.proofs.Common.{subst}
use Rattle.std.specs.Prelude.{IfSome, false}
use Rattle.rv_refused.specs.Filters.{FilterText}
use Rattle.rv_hits.specs.Hits.{hits_text}
use Rattle.rv_verdict.specs.Audits.{AuditsScript}
use Rattle.rv_review.specs.Reviews.{ReviewsFile}
use Rattle.rv_review.proofs.decided.hits_file.Goals as goal

pub returns : goal.returns
returns g c =
    subst (λ (filter : FilterText). IfSome (g.R.Read.remaining c.args.reader.now) (λ script. AuditsScript false (ReviewsFile (hits_text filter) (g.J.Read.remaining c.args.journal.now) c.args.takes_torn) (g.W.Write.contents c.args.writer.now) (g.W.Write.contents c.review_file.new.writer) script c.review_file.result)) c.new-observer.ensures.filter
    (c.review_file.ensures (λ limits units. c.new-observer.ensures.begins limits))
