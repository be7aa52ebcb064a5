use Rattle.std.proofs.Common.{take, map}
use Rattle.std.specs.Prelude.{option_map}
use Rattle.rv_near.specs.Near.{IsBest}
use Rattle.rv_near.proofs.nearest.Given as goal

-- the nearest of the names so far
abbrev pub invariant-loop-name : goal.invariant-loop-name
invariant-loop-name l = IsBest l.word (map (λ n. n.now) (take l.name-index l.names)) (option_map (λ p. (p.0, p.1.now)) l.best)
