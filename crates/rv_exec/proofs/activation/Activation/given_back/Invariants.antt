use Rattle.std.proofs.Common.{◌≡◌, drop, []}
use Rattle.rv_exec.specs.Activations.{given_back}
use Rattle.rv_exec.proofs.activation.Activation.given_back.Given as goal

abbrev pub invariant-loop-slot : goal.invariant-loop-slot
invariant-loop-slot l = given_back (drop l.slot l.parameters.items) l.slot l.self.slots l.values ≡ given_back l.parameters.items 0 l.self.slots []
