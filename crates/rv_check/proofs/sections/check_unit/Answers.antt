use Rattle.std.proofs.lemmas.Result.{err_from_is_err_and}
use Rattle.rv_check.proofs.Checking.{adds_told, unit_told}
use Rattle.rv_check.proofs.sections.check_unit.Goals as goal

pub returns : goal.returns
returns g c =
    let given = c.in_ok-unit.ensures in
    adds_told _ _ c.args.part.now.line _ _ _ _ given.0 (_, given.1) _ c.add_unit.ensures

pub returns-in_err-unit : goal.returns-in_err-unit
returns-in_err-unit g c =
    let p = err_from_is_err_and c.from_residual.result c.from_residual.ensures.1 in
    rw (p.1, p.2) (unit_told _ c.args.catalogue.now _ (g.W.Write.contents c.args.writer.now) _ _ c.in_err-unit.ensures)
