use Rattle.std.proofs.Common.{List, Option, subst}
use Rattle.std.specs.Prelude.{IfSome, true}
use Rattle.rv_access.specs.Words.{Words}
use Rattle.rv_rights.specs.Rights.{WishText, rights_text}
use Rattle.rv_verdict.specs.Audits.{AuditsScript}
use Rattle.rv_review.specs.Reviews.{ReviewsSection}
use Rattle.rv_review.proofs.granted.rights.Goals as goal

pub returns : goal.returns
returns g c =
    subst (λ (other : Option (List Words)). IfSome (g.R.Read.remaining c.args.reader.now) (λ script. AuditsScript true (ReviewsSection (rights_text c.args.wish other)) (g.W.Write.contents c.args.writer.now) (g.W.Write.contents c.review.new.writer) script c.review.result)) c.new-observer.ensures.other
    (subst (λ (wish : WishText). IfSome (g.R.Read.remaining c.args.reader.now) (λ script. AuditsScript true (ReviewsSection (rights_text wish c.new-observer.result.other)) (g.W.Write.contents c.args.writer.now) (g.W.Write.contents c.review.new.writer) script c.review.result)) c.new-observer.ensures.wish
    (c.review.ensures (λ limits units. c.new-observer.ensures.begins limits)))
