use Rattle.std.proofs.Common.{◌≡◌, drop}
use Rattle.std.specs.List.{list_all}
use Rattle.rv_ranged.specs.Ranged.{target_keeps}
use Rattle.rv_ranged.proofs.target.targets_keep.Given as goal

abbrev pub invariant-loop-target : goal.invariant-loop-target
invariant-loop-target l =
    list_all (target_keeps l.stand) (drop l.target-index l.target-items)
    ≡ list_all (target_keeps l.stand) l.target-items
