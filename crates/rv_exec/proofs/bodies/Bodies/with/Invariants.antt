use Rattle.std.proofs.Common.{◌≡◌, map, take}
use Rattle.rv_exec.specs.Bodies.{held}
use Rattle.rv_exec.proofs.bodies.Bodies.with.Given as goal

abbrev pub invariant-loop-held : goal.invariant-loop-held
invariant-loop-held l = map held l.units.items ≡ map held (take l.held-index l.self.units.items)
