use Rattle.std.proofs.Common.{◌≡◌, drop}
use Rattle.rv_scope.specs.Visible.{index_from}
use Rattle.rv_scope.proofs.find.unit_index.Given as goal

abbrev pub invariant-loop-index : goal.invariant-loop-index
invariant-loop-index l = index_from (λ x. x.name) l.name l.index (drop l.index l.shapes) ≡ index_from (λ x. x.name) l.name 0 l.shapes
