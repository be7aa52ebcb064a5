use Rattle.std.proofs.Common.{◌≡◌, drop, map}
use Rattle.rv_tree.specs.NameView.{name_view}
use Rattle.rv_restrict.specs.Found.{earlier, each_noted}
use Rattle.rv_restrict.specs.UnitWalk.{with_noted}
use Rattle.rv_restrict.proofs.unit.withs.Given as goal

abbrev pub invariant-loop-name : goal.invariant-loop-name
invariant-loop-name l =
    each_noted (with_noted earlier) (map name_view (drop l.name-index l.name-items)) l.first
    ≡ each_noted (with_noted earlier) (map name_view l.name-items) l.initial.first
