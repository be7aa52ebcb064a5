use Rattle.std.proofs.Common.{◌≡◌, drop}
use Rattle.rv_exec.specs.Activations.{copied_back}
use Rattle.rv_exec.proofs.activation.Activation.copy_back.Given as goal

abbrev pub invariant-loop-index : goal.invariant-loop-index
invariant-loop-index l = copied_back (drop l.index l.targets.items) l.index l.values l.self ≡ copied_back l.targets.items 0 l.values l.fn.self
