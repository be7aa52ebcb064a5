use Rattle.std.proofs.Common.{◌+◌, ◌-◌, ℕ, List, length}
use Rattle.std.specs.Prelude.{Option}
use Rattle.rv_go.specs.declared.running.Running.{Running}
use Rattle.rv_go.specs.declared.texts.Heard.{Heard}
use Rattle.rv_go.specs.Kept.{AreKept}
use Rattle.rv_go.proofs.places.reach.Given as goal

abbrev pub invariant-places : goal.invariant-places
invariant-places l =
    (budget awaited : ℕ) (heard : List Heard) (running : Option Running)
    → AreKept budget awaited heard running l.initial.listeners.items → AreKept budget awaited heard running l.listeners.items

abbrev pub decreases-places : goal.decreases-places
decreases-places l = l.actor + 1 - length l.listeners.items
