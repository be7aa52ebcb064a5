use Rattle.std.proofs.Common.{None, sym, subst}
use Rattle.std.proofs.lemmas.Result.{err_from_is_err_and}
use Rattle.rv_check.specs.Checks.{OfShape, at_line, shape_line}
use Rattle.rv_fault.proofs.Readings.{shape_there}
use Rattle.rv_check.proofs.Checking.{said_one, shape_read, shape_refused, shape_unread}
use Rattle.rv_check.proofs.sections.check_shape.Goals as goal

pub returns-in-Ok : goal.returns-in-Ok
returns-in-Ok g c =
    let text = c.args.part.now.text.now in
    let finds = OfShape c.args.catalogue.now c.add.new.self text in
    said_one _ _ (at_line c.args.part.now.line finds) (shape_line c.name.result.now) c.say.result
    (subst (λ n. finds (shape_line n) None) (sym c.name.ensures) (shape_read c.args.catalogue.now c.add.new.self text _ (shape_there text _ c.in_ok-shape.ensures) c.in-Ok.ensures.fits c.in-Ok.ensures.ok)) (c.say.ensures _ c.shape_line.ensures)

pub returns : goal.returns
returns g c =
    let text = c.args.part.now.text.now in
    rw c.shape_failure.ensures (shape_refused c.args.catalogue.now c.add.new.self text _ _ c.args.part.now.line c.in-Err.fault (shape_there text _ c.in_ok-shape.ensures) c.in-Err.ensures.found c.in-Err.ensures.memory)

pub returns-in_err-shape : goal.returns-in_err-shape
returns-in_err-shape g c =
    let p = err_from_is_err_and c.from_residual.result c.from_residual.ensures.1 in
    rw (p.1, p.2) (shape_unread c.args.catalogue.now c.args.catalogue.now c.args.part.now.text.now (g.W.Write.contents c.args.writer.now) c.args.part.now.line _ c.in_err-shape.ensures)
