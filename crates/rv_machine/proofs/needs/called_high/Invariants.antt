use Rattle.std.proofs.Common.{◌≤◌}
use Rattle.rv_flat.specs.FlatUnits.{flat_view}
use Rattle.rv_machine.specs.Heights.{called_height}
use Rattle.rv_machine.proofs.needs.called_high.Given as goal

-- a call at so many levels
abbrev pub invariant-loop : goal.invariant-loop
invariant-loop l = called_height l.one (flat_view l.unit) l.counter ≤ l.call
