use Rattle.std.proofs.Common.{◌≡◌, ◌≤◌, drop}
use Rattle.rv_exec.specs.Activations.{bound}
use Rattle.rv_exec.proofs.activation.Activation.bind.Given as goal

abbrev pub invariant-loop-slot : goal.invariant-loop-slot
invariant-loop-slot l =
    (bound (drop l.slot l.parameters.items) l.slot l.given l.values l.self.slots ≡ bound l.parameters.items 0 0 l.values l.fn.self.slots)
    × (l.given ≤ l.slot) × (l.self.components ≡ l.fn.self.components) × (l.self.steps ≡ l.fn.self.steps) × (l.self.requests ≡ l.fn.self.requests)
