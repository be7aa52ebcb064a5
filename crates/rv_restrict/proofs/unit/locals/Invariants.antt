use Rattle.std.proofs.Common.{◌≡◌, drop, map}
use Rattle.rv_tree.specs.UnitView.{unit_view}
use Rattle.rv_tree.specs.DeclarationView.{parameter_view}
use Rattle.rv_tree.specs.BodyView.{local_view}
use Rattle.rv_restrict.specs.Found.{earlier, each_noted}
use Rattle.rv_restrict.specs.UnitWalk.{local_noted}
use Rattle.rv_restrict.proofs.unit.locals.Given as goal

abbrev pub invariant-loop-one : goal.invariant-loop-one
invariant-loop-one l =
    each_noted (local_noted earlier (unit_view l.tree) l.unit (map parameter_view l.parameters) (map local_view l.list.items)) (map local_view (drop l.one-index l.list.items)) l.first
    ≡ each_noted (local_noted earlier (unit_view l.tree) l.unit (map parameter_view l.parameters) (map local_view l.list.items)) (map local_view l.list.items) l.initial.first
