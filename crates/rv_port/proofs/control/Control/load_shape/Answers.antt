use Rattle.std.proofs.Common.{◌≡◌, ◌∙◌, ap}
use Rattle.rv_code.specs.BodyView.{unit_view}
use Rattle.rv_exec.specs.Bodies.{held}
use Rattle.rv_port.specs.Controls.{no_bodies_of}
use Rattle.rv_port.proofs.Controls.{such_or_worn}
use Rattle.rv_port.proofs.control.Control.load_shape.Goals as goal

pub returns : goal.returns
returns g c = such_or_worn _ _ c.args.shape (λ u. u ≡ held c.in-Ok.unit) (λ u. unit_view u ≡ no_bodies_of c.args.shape) _ (λ u e. ap unit_view e ∙ c.in-Ok.ensures) c.load_shared.ensures
