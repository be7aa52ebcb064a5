use Rattle.std.proofs.Common.{◌≡◌, ◌++◌, drop, map}
use Rattle.std.specs.List.{flat_map}
use Rattle.rv_tree.specs.DeclarationView.{declaration_view}
use Rattle.rv_distinct.specs.Regions.{declaration_regions}
use Rattle.rv_distinct.proofs.unit.in_declarations.Given as goal

abbrev pub invariant-loop-one : goal.invariant-loop-one
invariant-loop-one l =
    l.regions.items ++ flat_map declaration_regions (map declaration_view (drop l.one-index l.one-items))
    ≡ l.initial.regions.items ++ flat_map declaration_regions (map declaration_view l.one-items)
