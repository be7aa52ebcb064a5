use Rattle.std.proofs.Common.{List, subst, false}
use Rattle.rv_shape.specs.Shape.{Shape}
use Rattle.rv_verdict.specs.Brought.{Brought}
use Rattle.rv_verdict.proofs.Wholly.{said_of}
use Rattle.rv_review.specs.Reviews.{Reviews, ReviewsFile}
use Rattle.rv_review.proofs.Judged.{never_file}
use Rattle.rv_review.proofs.reviewing.review_file_text.Goals as goal

pub returns : goal.returns
returns g c = λ begins.
    let says = g.O.Review.says c.args.observer in
    let journal = g.J.Read.remaining c.args.journal.now in
    let old = g.W.Write.contents c.args.writer.now in
    let new = g.W.Write.contents c.judge.new.writer in
    let it : Brought = record { limits = c.in_ok-limits.limits; units = c.in_ok-limits.given.units; journal = c.in_ok-limits.given.journal } in
    said_of false (ReviewsFile says journal c.args.takes_torn) old new c.args.text.now it c.judge.result (never_file says journal c.args.takes_torn) c.in_ok-limits.ensures.1
    (subst (λ (units : List Shape). Reviews says journal c.args.takes_torn old new c.in_ok-limits.limits units c.judge.result) c.units.ensures (c.judge.ensures (begins c.in_ok-limits.limits c.units.result.now)))
