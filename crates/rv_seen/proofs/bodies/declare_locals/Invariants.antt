use Rattle.std.proofs.Common.{◌≡◌, drop, map}
use Rattle.rv_tree.specs.BodyView.{local_view}
use Rattle.rv_scope.specs.UnitUses.{with_locals}
use Rattle.rv_seen.proofs.bodies.declare_locals.Given as goal

abbrev pub invariant-loop-one : goal.invariant-loop-one
invariant-loop-one l = with_locals (map local_view (drop l.one-index l.one-items)) l.scope ≡ with_locals (map local_view l.one-items) l.initial.scope
