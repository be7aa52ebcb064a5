use Rattle.std.proofs.Common.{List, Option, subst}
use Rattle.std.specs.Prelude.{IfSome, false}
use Rattle.rv_access.specs.Words.{Words}
use Rattle.rv_rights.specs.Rights.{WishText, rights_text}
use Rattle.rv_verdict.specs.Audits.{AuditsScript}
use Rattle.rv_review.specs.Reviews.{ReviewsFile}
use Rattle.rv_review.proofs.granted.rights_file.Goals as goal

pub returns : goal.returns
returns g c =
    subst (λ (other : Option (List Words)). IfSome (g.R.Read.remaining c.args.reader.now) (λ script. AuditsScript false (ReviewsFile (rights_text c.args.wish other) (g.J.Read.remaining c.args.journal.now) c.args.takes_torn) (g.W.Write.contents c.args.writer.now) (g.W.Write.contents c.review_file.new.writer) script c.review_file.result)) c.new-observer.ensures.other
    (subst (λ (wish : WishText). IfSome (g.R.Read.remaining c.args.reader.now) (λ script. AuditsScript false (ReviewsFile (rights_text wish c.new-observer.result.other) (g.J.Read.remaining c.args.journal.now) c.args.takes_torn) (g.W.Write.contents c.args.writer.now) (g.W.Write.contents c.review_file.new.writer) script c.review_file.result)) c.new-observer.ensures.wish
    (c.review_file.ensures (λ limits units. c.new-observer.ensures.begins limits)))
