-- The ticks of a real clock, as the operator asks them. (own)
use Rattle.std.specs.Prelude.{◌≡◌, ◌⊎◌, ℕ, zero, suc, ◌+◌, ◌≤◌, min, pos, Bool, true, false, Option, Some, None, Result, Ok, Err}
use Rattle.rv_behind.specs.declared.event.Ask.{Ask}
use Rattle.rv_event.specs.declared.entry.Answer.{Answer}
use Rattle.rv_event.specs.declared.entry.Answer.TheVariants.{Full}
use Rattle.rv_event.specs.declared.entry.Request.TheVariants as asks
use Rattle.rv_pace.specs.Pacing.{IsPeriod, Pacing, missed}
use Rattle.rv_port.specs.Controls.{Told}
use Rattle.rv_port.specs.Traces.{Passing}
use Rattle.rv_turn.specs.Passes.{IsWorn}
use Rattle.rv_turn.specs.declared.pass.Worn.{Worn}

-- a request for so many ticks, if an act is left
abbrev pub AsksOf : ℕ → Passing → Passing → Type 0
AsksOf ticks v w = ((answer : Answer) × Told v (Ask.Step (asks.Tick (pos ticks))) answer w) ⊎ IsWorn v w

-- so many requests, one after another, each for 1 .. 1,000,000 ticks, which are so many in all
abbrev pub AsksInAll : ℕ → ℕ → Passing → Passing → Type 0
AsksInAll zero ticks v w = (ticks ≡ 0) × (w ≡ v)
AsksInAll (suc count) ticks v w =
    (u : Passing) × (before : ℕ) × (last : ℕ) × AsksInAll count before v u × AsksOf last u w
    × (1 ≤ last) × (last ≤ 1_000_000) × (ticks ≡ before + last)

-- At a moment exactly those ticks are asked that are due and weren't asked, and nothing else.
pub record Ticks (v w : Passing) (old new : Pacing) (now : ℕ) : Type 0 where
  pub count : ℕ
  pub asks : AsksInAll count (missed old now) v w
  pub asked : new ≡ record old { asked = old.asked + missed old now }

-- a clock is followed from a moment on, with such a period, where it is one
abbrev pub Begins : Option ℕ → ℕ → Option Pacing → Type 0
Begins None now new = new ≡ None
Begins (Some period) now new =
    (IsPeriod period × (new ≡ Some (record { start = now; period = period; asked = 0 }))) ⊎ ((IsPeriod period → ⊥) × (new ≡ None))

-- At a reading of the clock the ticks are asked that are due then; the first one begins it. Without a reading nothing is asked.
abbrev pub KeepsPace : Passing → Passing → Option ℕ → Option ℕ → Option Pacing → Option Pacing → Type 0
KeepsPace v w period None old new = (w ≡ v) × (new ≡ old)
KeepsPace v w period (Some now) None new = (w ≡ v) × Begins period now new
KeepsPace v w period (Some now) (Some old) new = (after : Pacing) × (new ≡ Some after) × Ticks v w old after now

-- Where a run lasts

-- there was room for what was answered so, or no act is left
abbrev pub had_room : Result Answer Worn → Bool
had_room (Ok Full) = false
had_room result = true

-- a request for so many ticks, for which there was room, or no act is left; or for which there was none
abbrev pub AsksRoom : ℕ → (had : Bool) → Passing → Passing → Type 0
AsksRoom ticks true v w = AsksOf ticks v w
AsksRoom ticks false v w = Told v (Ask.Step (asks.Tick (pos ticks))) Full w

-- At a moment the ticks that are due are asked, at most so many at once; where there is no room for them now, they stay due.
abbrev pub TicksOnce : Passing → Passing → Pacing → Pacing → ℕ → Type 0
TicksOnce v w old new now =
    ((missed old now ≡ 0) × (w ≡ v) × (new ≡ old))
    ⊎ (AsksOf (min 1_000_000 (missed old now)) v w × (new ≡ record old { asked = old.asked + min 1_000_000 (missed old now) }))
    ⊎ (AsksRoom (min 1_000_000 (missed old now)) false v w × (new ≡ old))

-- so it is at a reading of the clock
abbrev pub KeepsPaceOnce : Passing → Passing → Option ℕ → Option ℕ → Option Pacing → Option Pacing → Type 0
KeepsPaceOnce v w period None old new = (w ≡ v) × (new ≡ old)
KeepsPaceOnce v w period (Some now) None new = (w ≡ v) × Begins period now new
KeepsPaceOnce v w period (Some now) (Some old) new = (after : Pacing) × (new ≡ Some after) × TicksOnce v w old after now
