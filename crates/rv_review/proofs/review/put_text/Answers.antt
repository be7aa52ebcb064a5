use Rattle.std.proofs.Common.{refl}
use Rattle.std.proofs.lemmas.Result.{err_from_is_err_and}
use Rattle.rv_fault.specs.declared.failure.Failure.TheVariants.{Memory}
use Rattle.rv_review.proofs.Judged.{unput}
use Rattle.rv_review.proofs.review.put_text.Goals as goal

pub returns-in_err-text : goal.returns-in_err-text
returns-in_err-text g c = λ begun units h names follows.
    let p = err_from_is_err_and c.from_residual.result c.from_residual.ensures.1 in
    rw (p.1, p.2) (unput (g.W.Write.contents c.args.writer.now) (g.O.Review.says begun h) Memory refl)
