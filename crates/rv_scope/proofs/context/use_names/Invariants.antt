use Rattle.std.proofs.Common.{◌≡◌, drop, map}
use Rattle.rv_tree.specs.NameView.{name_view}
use Rattle.rv_scope.specs.UnitUses.{use_names}
use Rattle.rv_scope.proofs.context.use_names.Given as goal

abbrev pub invariant-loop-one : goal.invariant-loop-one
invariant-loop-one l =
    use_names (map name_view (drop l.one-index l.one-items)) l.scope ≡ use_names (map name_view l.one-items) l.initial.scope
