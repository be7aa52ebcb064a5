use Rattle.std.proofs.Common.{◌≤◌, ◌+◌, length}
use Rattle.std.specs.Prelude.{vec_len}
use Rattle.std.specs.Vec.{vec_capacity}
use Rattle.rv_crew.specs.Crews.{owed, owed_for}
use Rattle.rv_crew.proofs.Joins.{LeadsOn, KeptOn}
use Rattle.rv_crew.proofs.crew.join_each.Given as goal

abbrev pub invariant-loop-thread : goal.invariant-loop-thread
invariant-loop-thread g l = record {
  leads : LeadsOn g.D.Duty.does owed l.fn.joined.items l.fn.waiting.items l.joined.items l.waiting.items;
  kept : KeptOn owed owed_for l.fn.paid.items l.fn.waiting.items l.paid.items l.waiting.items;
  room : length l.waiting.items + vec_len l.joined ≤ vec_capacity l.joined;
  space : length l.waiting.items + vec_len l.paid ≤ vec_capacity l.paid;
}

abbrev pub decreases-loop-thread : goal.decreases-loop-thread
decreases-loop-thread g l = length l.waiting.items
