use Rattle.std.proofs.Common.{◌≡◌, drop, map}
use Rattle.rv_tree.specs.NameView.{name_view}
use Rattle.rv_scope.specs.UnitUses.{with_names}
use Rattle.rv_scope.proofs.context.with_names.Given as goal

abbrev pub invariant-loop-one : goal.invariant-loop-one
invariant-loop-one l =
    with_names (map name_view (drop l.one-index l.one-items)) l.scope ≡ with_names (map name_view l.one-items) l.initial.scope
