-- How a timeline follows a journal, entry by entry (own).
use Rattle.std.specs.Prelude.{◌≡◌, ℕ, suc, List, [], ◌∷◌, ◌++◌, length, Option, Some}
use Rattle.rv_shape.specs.Shape.{Shape}
use Rattle.rv_event.specs.Past.{clock}
use Rattle.rv_event.specs.Past as past
use Rattle.rv_event.specs.declared.entry.Entry.{Entry}
use Rattle.rv_history.specs.History.{History}
use Rattle.rv_refused.specs.Filters.{FilterText}
use Rattle.rv_lasting.specs.Calls.{KeepsCalls}
use Rattle.rv_lasting.specs.Lasting.{delay_by, waiting_by, woken_by}
use Rattle.rv_lasting.specs.Tracks.{Tracked, ended}
use Rattle.rv_waits.specs.Following.{begun_of, turned}
use Rattle.rv_waits.specs.Lasting.{Waits, Bodies, Delays, freed_by, if_taken, tracked}
use Rattle.rv_picture.specs.declared.bar.Bar.{Bar}
use Rattle.rv_picture.specs.declared.bar.Kind.{Kind}
use Rattle.rv_picture.specs.declared.bar.Kind.TheVariants as Kinds
use Rattle.rv_timeline.specs.Timelines.{bar_if, bars_in, moments_in, refused_by}
use Rattle.rv_timeline.specs.declared.timeline.Timeline.{Timeline}
use Rattle.rv_timeline.specs.declared.timeline.Wish.{Wish}

-- what is gathered behind these entries
pub record Gathers (wish : Wish) (it : Timeline) (shapes : List Shape) (past : List Entry) : Type 0 where
  pub wished : it.wish ≡ wish
  pub calls : KeepsCalls it.calls past
  pub waits : it.waits ≡ tracked Waits wish.filter shapes past
  pub bodies : it.bodies ≡ tracked Bodies wish.filter shapes past
  pub delays : it.delays ≡ tracked Delays wish.filter shapes past
  pub bars : it.bars.items ≡ bars_in wish.filter shapes past
  pub moments : it.moments.items ≡ moments_in past

-- and the clock
pub record Follows (wish : Wish) (it : Timeline) (h : History) : Type 0 where
  pub gathers : Gathers wish it h.shapes h.past
  pub tick : it.tick ≡ clock h.past

-- an entry of this number at this tick is noted
pub record NotesMoment (old new : Timeline) (number tick : ℕ) : Type 0 where
  pub moments : new.moments.items ≡ old.moments.items ++ record { number = number; tick = tick } ∷ []
  pub wish : new.wish ≡ old.wish
  pub calls : new.calls ≡ old.calls
  pub waits : new.waits ≡ old.waits
  pub bodies : new.bodies ≡ old.bodies
  pub delays : new.delays ≡ old.delays
  pub bars : new.bars.items ≡ old.bars.items

-- the bar of the one that ends, of an actor, if one does and a filter takes it
abbrev pub ended_bar : Kind → FilterText → History → ℕ → Option ℕ → Tracked → List Bar
ended_bar kind filter h number actor track =
    bar_if kind (if_taken filter h.shapes (ended actor track.begun)) (Some number) (clock h.past)

-- the bar of what an entry is refused, if a filter takes it
abbrev pub refused_bar : FilterText → History → ℕ → Entry → List Bar
refused_bar filter h number entry =
    bar_if Kinds.Refused (if_taken filter h.shapes (begun_of h number (refused_by h.shapes h.past entry))) (Some number) (clock h.past)

-- what an entry of this number says of waits
pub record LooksForWaits (old new : Timeline) (h : History) (number : ℕ) (entry : Entry) : Type 0 where
  pub waits : new.waits
      ≡ turned old.wish.filter h.shapes (clock h.past) (freed_by h.past entry) (begun_of h number (waiting_by entry)) old.waits
  pub bars : new.bars.items ≡ old.bars.items ++ ended_bar Kinds.Wait old.wish.filter h number (freed_by h.past entry) old.waits
  pub wish : new.wish ≡ old.wish
  pub calls : new.calls ≡ old.calls
  pub bodies : new.bodies ≡ old.bodies
  pub delays : new.delays ≡ old.delays
  pub moments : new.moments.items ≡ old.moments.items

-- of bodies
pub record LooksForBodies (old new : Timeline) (h : History) (number : ℕ) (entry : Entry) : Type 0 where
  pub bodies : KeepsCalls old.calls h.past → new.bodies
      ≡ turned old.wish.filter h.shapes (clock h.past) (past.ended entry) (begun_of h number (past.started h.shapes h.past entry)) old.bodies
  pub bars : new.bars.items ≡ old.bars.items ++ ended_bar Kinds.Body old.wish.filter h number (past.ended entry) old.bodies
  pub wish : new.wish ≡ old.wish
  pub calls : new.calls ≡ old.calls
  pub waits : new.waits ≡ old.waits
  pub delays : new.delays ≡ old.delays
  pub moments : new.moments.items ≡ old.moments.items

-- of delays
pub record LooksForDelays (old new : Timeline) (h : History) (number : ℕ) (entry : Entry) : Type 0 where
  pub delays : new.delays ≡ turned old.wish.filter h.shapes (clock h.past) (woken_by entry) (delay_by entry number) old.delays
  pub bars : new.bars.items ≡ old.bars.items ++ ended_bar Kinds.Delay old.wish.filter h number (woken_by entry) old.delays
  pub wish : new.wish ≡ old.wish
  pub calls : new.calls ≡ old.calls
  pub waits : new.waits ≡ old.waits
  pub bodies : new.bodies ≡ old.bodies
  pub moments : new.moments.items ≡ old.moments.items

-- of a refusal, and the call that it queues is noted
pub record LooksForRefusal (old new : Timeline) (h : History) (number : ℕ) (entry : Entry) : Type 0 where
  pub bars : KeepsCalls old.calls h.past → new.bars.items ≡ old.bars.items ++ refused_bar old.wish.filter h number entry
  pub calls : KeepsCalls old.calls h.past → KeepsCalls new.calls (entry ∷ h.past)
  pub wish : new.wish ≡ old.wish
  pub waits : new.waits ≡ old.waits
  pub bodies : new.bodies ≡ old.bodies
  pub delays : new.delays ≡ old.delays
  pub moments : new.moments.items ≡ old.moments.items

-- a noted entry is looked at as the next one
abbrev pub Looks : Timeline → Timeline → History → ℕ → Entry → Type 0
Looks old new h number entry =
    (first : Timeline) (wish : Wish) → NotesMoment first old number (clock h.past) → Gathers wish first h.shapes h.past
    → number ≡ suc (length h.past) → Gathers wish new h.shapes (entry ∷ h.past)
