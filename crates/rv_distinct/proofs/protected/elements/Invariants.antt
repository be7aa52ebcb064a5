use Rattle.std.proofs.Common.{◌≡◌, ◌++◌, drop, map}
use Rattle.std.specs.List.{flat_map}
use Rattle.rv_tree.specs.DeclarationView.{element_view}
use Rattle.rv_tree.specs.DeclaredNames.{element_names}
use Rattle.rv_distinct.proofs.protected.elements.Given as goal

abbrev pub invariant-loop-one : goal.invariant-loop-one
invariant-loop-one l =
    l.region ++ flat_map element_names (map element_view (drop l.one-index l.one-items))
    ≡ l.initial.region ++ flat_map element_names (map element_view l.one-items)
