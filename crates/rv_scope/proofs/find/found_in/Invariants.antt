use Rattle.std.proofs.Common.{◌≡◌, drop, None}
use Rattle.rv_scope.specs.Visible.{found_in}
use Rattle.rv_scope.proofs.find.found_in.Given as goal

abbrev pub invariant-loop-region : goal.invariant-loop-region
invariant-loop-region l = found_in l.name l.found (drop l.region-index l.regions) ≡ found_in l.name None l.regions
