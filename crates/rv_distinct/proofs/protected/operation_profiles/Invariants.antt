use Rattle.std.proofs.Common.{◌≡◌, ◌++◌, drop, map}
use Rattle.std.specs.List.{flat_map}
use Rattle.rv_tree.specs.DeclarationView.{operation_view}
use Rattle.rv_distinct.specs.Regions.{profile_regions}
use Rattle.rv_distinct.proofs.protected.operation_profiles.Given as goal

abbrev pub invariant-loop-one : goal.invariant-loop-one
invariant-loop-one l =
    l.regions.items ++ flat_map profile_regions (map operation_view (drop l.one-index l.one-items))
    ≡ l.initial.regions.items ++ flat_map profile_regions (map operation_view l.one-items)
