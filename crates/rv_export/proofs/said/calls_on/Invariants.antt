use Rattle.std.proofs.Common.{◌≡◌, length}
use Rattle.rv_export.specs.Said.{AreCallsOn}
use Rattle.rv_export.proofs.said.calls_on.Given as goal

abbrev pub invariant-loop-operation : goal.invariant-loop-operation
invariant-loop-operation l = record {
  are : AreCallsOn l.calls.items l.catalogue l.object;
  long : l.operation ≡ length l.calls.items;
}
