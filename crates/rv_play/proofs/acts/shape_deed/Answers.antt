use Rattle.std.proofs.Common.{◌≡◌, List, Option, Some, sym, subst}
use Rattle.std.proofs.lemmas.Result.{err_from_is_err_and}
use Rattle.rv_shape.specs.Fits.{fault}
use Rattle.rv_shape.specs.Shape.{Shape}
use Rattle.rv_shape.specs.ShapeText.{shape_of}
use Rattle.rv_play.specs.Acts.{load_act}
use Rattle.rv_play.specs.Scripted.{playing}
use Rattle.rv_play.specs.Deeds.{Comes, ComesToDeed, just, if_fits}
use Rattle.rv_fault.proofs.Readings.{shape_there}
use Rattle.rv_play.proofs.Reading.{shape_stands}
use Rattle.rv_play.proofs.acts.shape_deed.Goals as goal

pub returns-in_err-shape : goal.returns-in_err-shape
returns-in_err-shape c =
    let p = err_from_is_err_and c.from_residual.result c.from_residual.ensures.1 in
    rw (p.1, p.2) (shape_stands c.args.line (playing c.args.player.now).stage c.args.text.now _ c.in_err-shape.ensures)

pub returns : goal.returns
returns c =
    let found : shape_of c.args.text.now ≡ Some c.in_ok-shape.shape = shape_there c.args.text.now c.in_ok-shape.shape c.in_ok-shape.ensures in
    subst (λ (o : Option Shape). Comes c.args.line (ComesToDeed (playing c.args.player.now).stage (load_act c.args.line o)) c.load_deed.result) (sym found)
    (subst (λ (shapes : List Shape). Comes c.args.line (just (if_fits c.in_ok-shape.shape (fault shapes c.in_ok-shape.shape))) c.load_deed.result) c.catalogue.ensures c.load_deed.ensures)
