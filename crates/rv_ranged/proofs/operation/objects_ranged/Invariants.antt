use Rattle.std.proofs.Common.{◌≡◌, drop, map}
use Rattle.rv_code.specs.BodyView.{list_at}
use Rattle.rv_ranged.specs.Ranged.{objects_ranged}
use Rattle.rv_ranged.proofs.operation.objects_ranged.Given as goal

abbrev pub invariant-loop-list : goal.invariant-loop-list
invariant-loop-list l =
    objects_ranged l.units l.left (map (list_at l.bodies.lists.items) (drop l.list-index l.list-items))
    ≡ objects_ranged l.units l.initial.left (map (list_at l.bodies.lists.items) l.list-items)
