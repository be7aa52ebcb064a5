use Rattle.std.proofs.Common.{◌≡◌, ◌++◌, drop, map}
use Rattle.rv_tree.specs.BodyView.{operation_body_view}
use Rattle.rv_distinct.specs.Regions.{body_region}
use Rattle.rv_distinct.proofs.unit.in_protected_body.Given as goal

abbrev pub invariant-loop-one : goal.invariant-loop-one
invariant-loop-one l =
    l.regions.items ++ map body_region (map operation_body_view (drop l.one-index l.one-items))
    ≡ l.initial.regions.items ++ map body_region (map operation_body_view l.one-items)
