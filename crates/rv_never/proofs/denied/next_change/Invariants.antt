use Rattle.std.proofs.Common.{◌<◌, ◌≤◌, take}
use Rattle.std.specs.Prelude.{IfSome}
use Rattle.rv_access.specs.Limits.{most_tick}
use Rattle.rv_text.specs.Names.{dotted}
use Rattle.rv_never.specs.Denied.{AreSteady}
use Rattle.rv_never.proofs.denied.next_change.Given as goal

-- so it is of the lines so far
abbrev pub invariant-loop-line : goal.invariant-loop-line
invariant-loop-line l = record {
  later : IfSome l.next (λ next. (l.tick < next) × (next ≤ most_tick));
  steady : AreSteady (take l.line-index l.lines) l.caller (dotted l.unit l.object) l.operation l.tick l.next;
}
