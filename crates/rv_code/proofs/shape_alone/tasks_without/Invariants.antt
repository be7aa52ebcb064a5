use Rattle.std.proofs.Common.{◌≡◌, None, map, replicate}
use Rattle.rv_code.specs.BodyView.{maybe_body_view}
use Rattle.rv_code.proofs.shape_alone.tasks_without.Given as goal

abbrev pub invariant-loop : goal.invariant-loop
invariant-loop l = map maybe_body_view l.tasks.items ≡ replicate l.counter None
