use Rattle.std.proofs.Common.{subst}
use Rattle.rv_port.specs.Traces.{Passing}
use Rattle.rv_port.specs.Controls.{IsOperators}
use Rattle.rv_port.proofs.Operators.{keeps_of}
use Rattle.rv_port.proofs.control.Control.keeps.Goals as goal

pub returns : goal.returns
returns c = subst (λ (z : Passing). IsOperators z) c.self.view_is (keeps_of _ _ _ _ _ c.self.invariant)
