use Rattle.std.proofs.Common.{◌≡◌, drop}
use Rattle.rv_choice.specs.Actors.{has_task}
use Rattle.rv_choice.proofs.actors.has_task.Given as goal

-- what is left decides
abbrev pub invariant-loop-actor : goal.invariant-loop-actor
invariant-loop-actor l = has_task l.task (drop l.actor-index l.actors) ≡ has_task l.task l.actors
