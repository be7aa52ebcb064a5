use Rattle.std.proofs.Common.{◌≤◌, arith}
use Rattle.rv_flat.specs.FlatUnits.{flat_view}
use Rattle.rv_flat.specs.Tables.{trees}
use Rattle.rv_machine.proofs.Needing.{small_over}
use Rattle.rv_machine.proofs.Rises.{any_low}
use Rattle.rv_machine.specs.Heights.{any_height}
use Rattle.rv_machine.proofs.needs.any_high.Goals as goal

pub returns : goal.returns
returns c =
    let low = any_low c.args.one (flat_view c.args.unit.now) c.in_ok-call.call c.tasks_high-tasks.result c.in_ok-call.ensures (c.tasks_high-tasks.ensures (trees c.args.unit.now.code) c.in_ok-call.call c.in_ok-heights.ensures) in
    let is = c.higher.ensures in
    let le : any_height c.args.one (flat_view c.args.unit.now) ≤ c.higher.result = omega (arith, low, is) in
    small_over c.small.result _ _ c.small.ensures le
