use Rattle.std.proofs.Common.{◌≡◌, List, subst}
use Rattle.std.specs.Prelude.{IfSome}
use Rattle.rv_code.specs.BodyView.{unit_view}
use Rattle.rv_fits.specs.Fits.{are_of}
use Rattle.rv_shape.specs.Shape.{Shape}
use Rattle.rv_port.proofs.control.Control.allows.Goals as goal

pub returns : goal.returns
returns c =
    subst (λ (s : List Shape). IfSome c.may_load.result (λ b. b ≡ are_of s c.args.shape.now (unit_view c.args.bodies.now))) c.catalogue.ensures c.may_load.ensures
