use Rattle.std.proofs.Common.{◌≡◌, ◌*◌, ◌≤◌}
use Rattle.rv_present.specs.Stances.{dues_by}
use Rattle.rv_present.proofs.stances.dues_by.Given as goal

abbrev pub invariant-loop-actor : goal.invariant-loop-actor
invariant-loop-actor l = (l.dues ≡ dues_by l.stances l.actor) × (l.dues ≤ 3 * l.actor)
