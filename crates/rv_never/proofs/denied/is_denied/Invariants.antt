use Rattle.std.proofs.Common.{◌≤◌, ◌-◌}
use Rattle.rv_access.specs.Limits.{most_tick}
use Rattle.rv_text.specs.Names.{dotted}
use Rattle.rv_never.proofs.Steady.{DeniedBefore}
use Rattle.rv_never.proofs.denied.is_denied.Given as goal

-- the call is denied up to here
abbrev pub invariant-ticks : goal.invariant-ticks
invariant-ticks l = record {
  since : l.clock ≤ l.tick;
  denied : DeniedBefore l.list l.clock l.tick l.caller (dotted l.unit l.object) l.operation;
}

abbrev pub decreases-ticks : goal.decreases-ticks
decreases-ticks l = most_tick - l.tick
