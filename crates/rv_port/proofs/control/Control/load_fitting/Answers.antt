use Rattle.std.proofs.Common.{◌≡◌, ◌∙◌}
use Rattle.rv_exec.specs.Bodies.{held}
use Rattle.rv_port.proofs.Controls.{such_or_worn}
use Rattle.rv_port.proofs.control.Control.load_fitting.Goals as goal

pub returns : goal.returns
returns g c = such_or_worn _ _ c.args.shape (λ u. u ≡ held c.in-Ok.unit) (λ u. u ≡ c.args.bodies) _ (λ u e. e ∙ c.in-Ok.ensures) c.load_shared.ensures
