use Rattle.std.proofs.Common.{◌≡◌, ◌++◌, drop, map}
use Rattle.std.specs.List.{flat_map}
use Rattle.rv_tree.specs.BodyView.{local_view}
use Rattle.rv_tree.specs.DeclaredNames.{local_names}
use Rattle.rv_distinct.proofs.names.block.Given as goal

abbrev pub invariant-loop-one : goal.invariant-loop-one
invariant-loop-one l =
    l.region ++ flat_map local_names (map local_view (drop l.one-index l.one-items))
    ≡ l.initial.region ++ flat_map local_names (map local_view l.one-items)
