use Rattle.std.proofs.Common.{◌≡◌, drop, map}
use Rattle.rv_code.specs.BodyView.{body_view}
use Rattle.rv_ranged.specs.Ranged.{operations_ranged}
use Rattle.rv_ranged.proofs.operation.operations_ranged.Given as goal

abbrev pub invariant-loop-b : goal.invariant-loop-b
invariant-loop-b l =
    operations_ranged l.units l.object l.left (map body_view (drop l.b-index l.bodies))
    ≡ operations_ranged l.units l.object l.initial.left (map body_view l.bodies)
