use Rattle.std.proofs.Common.{◌≡◌, length}
use Rattle.rv_export.specs.Said.{AreActors}
use Rattle.rv_export.proofs.said.actors_of.Given as goal

abbrev pub invariant-loop-actor : goal.invariant-loop-actor
invariant-loop-actor l = record {
  are : AreActors l.names.items l.catalogue;
  long : l.actor ≡ length l.names.items;
}
