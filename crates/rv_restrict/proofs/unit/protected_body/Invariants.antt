use Rattle.std.proofs.Common.{◌≡◌, drop, map}
use Rattle.rv_tree.specs.UnitView.{unit_view}
use Rattle.rv_tree.specs.BodyView.{operation_body_view}
use Rattle.rv_restrict.specs.Found.{earlier, each_noted}
use Rattle.rv_restrict.specs.UnitWalk.{operation_body_noted}
use Rattle.rv_restrict.proofs.unit.protected_body.Given as goal

abbrev pub invariant-loop-operation : goal.invariant-loop-operation
invariant-loop-operation l =
    each_noted (operation_body_noted earlier (unit_view l.tree) l.unit) (map operation_body_view (drop l.operation-index l.operation-items)) l.first
    ≡ each_noted (operation_body_noted earlier (unit_view l.tree) l.unit) (map operation_body_view l.operation-items) l.initial.first
