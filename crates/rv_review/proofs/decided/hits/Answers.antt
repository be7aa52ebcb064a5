use Rattle.std.proofs.Common.{subst}
use Rattle.std.specs.Prelude.{IfSome, true}
use Rattle.rv_refused.specs.Filters.{FilterText}
use Rattle.rv_hits.specs.Hits.{hits_text}
use Rattle.rv_verdict.specs.Audits.{AuditsScript}
use Rattle.rv_review.specs.Reviews.{ReviewsSection}
use Rattle.rv_review.proofs.decided.hits.Goals as goal

pub returns : goal.returns
returns g c =
    subst (λ (filter : FilterText). IfSome (g.R.Read.remaining c.args.reader.now) (λ script. AuditsScript true (ReviewsSection (hits_text filter)) (g.W.Write.contents c.args.writer.now) (g.W.Write.contents c.review.new.writer) script c.review.result)) c.new-observer.ensures.filter
    (c.review.ensures (λ limits units. c.new-observer.ensures.begins limits))
