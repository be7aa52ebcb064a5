use Rattle.std.proofs.Common.{None, sym, subst}
use Rattle.rv_shape.specs.ShapeText.{shape_of}
use Rattle.rv_check.specs.Checks.{shape_line}
use Rattle.rv_check.specs.Scripts.{as_given}
use Rattle.rv_check.proofs.Checking.{said_one}
use Rattle.rv_check.proofs.Judged.{given_said, given_unread}
use Rattle.rv_check.proofs.script.check_given.Goals as goal

pub returns-in-Ok-add_where_it_fits : goal.returns-in-Ok-add_where_it_fits
returns-in-Ok-add_where_it_fits g c =
    let text = c.args.part.now.text.now in
    let after = c.add_where_it_fits.new.catalogue in
    let tells = as_given c.args.catalogue.now after c.args.part.now.line (shape_of text) in
    said_one _ _ tells (shape_line c.name.result.now) c.say.result
    (subst (λ n. tells (shape_line n) None) (sym c.name.ensures) (given_said c.args.catalogue.now after text _ c.args.part.now.line c.in-Ok.ensures c.in-Ok-add_where_it_fits.ensures.ok)) (c.say.ensures _ c.shape_line.ensures)

pub returns-in-Err : goal.returns-in-Err
returns-in-Err g c =
    given_unread c.args.catalogue.now c.args.catalogue.now c.args.part.now.text.now (g.W.Write.contents c.args.writer.now) c.args.part.now.line c.in-Err.failure c.in-Err.ensures
