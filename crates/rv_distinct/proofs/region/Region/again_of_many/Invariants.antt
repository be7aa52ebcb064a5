use Rattle.std.proofs.Common.{◌≡◌, drop, map}
use Rattle.rv_tree.specs.NameView.{identifier_view}
use Rattle.rv_distinct.specs.Regions.{are_distinct}
use Rattle.rv_distinct.proofs.Again.{are_new}
use Rattle.rv_distinct.proofs.region.Region.again_of_many.Given as goal

abbrev pub invariant-loop-identifier : goal.invariant-loop-identifier
invariant-loop-identifier l =
    are_new l.noted (map (λ i. identifier_view i.now) (drop l.identifier-index l.identifier-items))
    ≡ are_distinct (map (λ i. identifier_view i.now) l.identifier-items)
