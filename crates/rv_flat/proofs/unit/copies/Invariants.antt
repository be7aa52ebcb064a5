use Rattle.std.proofs.Common.{◌≡◌, ℕ, List, map, take}
use Rattle.rv_flat.specs.FlatView.{IsAmong, body_in}
use Rattle.rv_flat.specs.FlatUnits.{Every}
use Rattle.rv_flat.specs.Trees.{Tree}
use Rattle.rv_flat.proofs.unit.copies.Given as goal

abbrev pub invariant-loop-body : goal.invariant-loop-body
invariant-loop-body l = record {
  bodies : (ts : List Tree) → map (body_in ts) l.copies.items ≡ map (body_in ts) (take l.body-index l.bodies.items);
  among : (n : ℕ) → Every (IsAmong n) l.bodies.items → Every (IsAmong n) l.copies.items;
}
