-- What the settles behind an end leave (own).
use Rattle.std.specs.Prelude.{◌≡◌, ◌⊎◌, ℤ, List, false}
use Rattle.rv_event.specs.Past.{mode}
use Rattle.rv_event.specs.declared.entry.Answer.TheVariants.{Done}
use Rattle.rv_event.specs.declared.entry.Exit.{Exit}
use Rattle.rv_event.specs.declared.entry.Mode.{Mode}
use Rattle.rv_event.specs.declared.entry.Next.{Next}
use Rattle.rv_event.specs.declared.entry.Request.TheVariants.{Complete}
use Rattle.rv_history.specs.Fitting.{is_settling}
use Rattle.rv_history.specs.History.{History}
use Rattle.rv_behind.specs.Events.{history_at}
use Rattle.rv_port.specs.Traces.{Passing, limits_in, Asked, SettlesBehind}

-- the mode of a port's actor, by what the port has seen
abbrev pub mode_seen : Passing → Mode
mode_seen v = let h : History = history_at (limits_in v.about) v.seen in mode h.shapes v.actor h.past

-- Behind an end, and the settles that follow it, the actor has no object to settle, unless no act is left.
abbrev pub EndsAreSettled : Type 0
EndsAreSettled =
    (v u w : Passing) (scalars : List ℤ) (exit : Exit) (next : Next)
    → Asked v (Complete scalars exit) (Done next) u → SettlesBehind (Done next) u w
    → (w.left ≡ 0) ⊎ (is_settling (mode_seen w) ≡ false)
