use Rattle.std.proofs.Common.{◌≡◌, ◌++◌, drop, map}
use Rattle.std.specs.List.{flat_map}
use Rattle.rv_tree.specs.DeclarationView.{operation_view}
use Rattle.rv_tree.specs.DeclaredNames.{operation_names}
use Rattle.rv_distinct.proofs.protected.operations.Given as goal

abbrev pub invariant-loop-one : goal.invariant-loop-one
invariant-loop-one l =
    l.region ++ flat_map operation_names (map operation_view (drop l.one-index l.one-items))
    ≡ l.initial.region ++ flat_map operation_names (map operation_view l.one-items)
