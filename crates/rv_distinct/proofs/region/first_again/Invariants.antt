use Rattle.std.proofs.Common.{◌≡◌, ◌&&◌, drop}
use Rattle.std.specs.List.{list_all}
use Rattle.std.specs.Option.{is_none}
use Rattle.rv_distinct.specs.Regions.{are_distinct}
use Rattle.rv_distinct.proofs.region.first_again.Given as goal

abbrev pub invariant-loop-region : goal.invariant-loop-region
invariant-loop-region l =
    (is_none l.least && list_all are_distinct (drop l.region-index l.region-items)) ≡ list_all are_distinct l.region-items
