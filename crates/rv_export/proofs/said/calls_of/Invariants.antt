use Rattle.std.proofs.Common.{◌≡◌, length}
use Rattle.rv_export.specs.Said.{AreCalls}
use Rattle.rv_export.proofs.said.calls_of.Given as goal

abbrev pub invariant-loop-object : goal.invariant-loop-object
invariant-loop-object l = record {
  are : AreCalls l.calls.items l.catalogue;
  long : l.object ≡ length l.calls.items;
}
