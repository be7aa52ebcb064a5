use Rattle.std.proofs.Common.{◌≡◌, ◌++◌, drop, map}
use Rattle.std.specs.List.{flat_map}
use Rattle.rv_tree.specs.DeclarationView.{declaration_view}
use Rattle.rv_tree.specs.DeclaredNames.{declaration_names}
use Rattle.rv_distinct.proofs.names.declarations.Given as goal

abbrev pub invariant-loop-one : goal.invariant-loop-one
invariant-loop-one l =
    l.region ++ flat_map declaration_names (map declaration_view (drop l.one-index l.one-items))
    ≡ l.initial.region ++ flat_map declaration_names (map declaration_view l.one-items)
