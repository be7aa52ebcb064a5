-- How a review of waits follows a journal, entry by entry (own).
use Rattle.std.specs.Prelude.{◌≡◌, ℕ, suc, List, ◌∷◌, ◌++◌, length, string_bytes, Option}
use Rattle.std.specs.Option.{option_map}
use Rattle.rv_shape.specs.Shape.{Shape}
use Rattle.rv_event.specs.Past.{clock, next_of}
use Rattle.rv_event.specs.Past as past
use Rattle.rv_event.specs.declared.entry.Body.{Body}
use Rattle.rv_event.specs.declared.entry.Entry.{Entry}
use Rattle.rv_history.specs.History.{History}
use Rattle.rv_refused.specs.Filters.{FilterText}
use Rattle.rv_lasting.specs.Calls.{KeepsCalls}
use Rattle.rv_lasting.specs.Lasting.{delay_by, since, waiting_by, woken_by}
use Rattle.rv_lasting.specs.Lines.{ended_line}
use Rattle.rv_lasting.specs.Tracks.{Tracked, closed, ended, opened}
use Rattle.rv_lasting.specs.declared.track.Begun.{Begun}
use Rattle.rv_waits.specs.Lasting.{What, Waits, Bodies, Delays, freed_by, if_taken, tracked, with_span}
use Rattle.rv_waits.specs.Waits.{waits_in}
use Rattle.rv_waits.specs.declared.waits.Waits.{Waits as Observer}

-- what is gathered behind these entries
pub record Gathers (filter : FilterText) (it : Observer) (shapes : List Shape) (past : List Entry) : Type 0 where
  pub taken : it.filter ≡ filter
  pub calls : KeepsCalls it.calls past
  pub waits : it.waits ≡ tracked Waits filter shapes past
  pub bodies : it.bodies ≡ tracked Bodies filter shapes past
  pub delays : it.delays ≡ tracked Delays filter shapes past
  pub text : string_bytes it.text ≡ waits_in filter shapes past

-- and the clock
pub record Follows (filter : FilterText) (it : Observer) (h : History) : Type 0 where
  pub gathers : Gathers filter it h.shapes h.past
  pub tick : it.tick ≡ clock h.past

-- one more ends, if one does, and one more begins, if one does
abbrev pub turned : FilterText → List Shape → ℕ → Option ℕ → Option Begun → Tracked → Tracked
turned filter shapes tick actor begun old = record {
  begun = opened begun (closed actor old.begun);
  spans = with_span tick (if_taken filter shapes (ended actor old.begun)) old.spans;
}

-- what begins by an entry of this number behind a history, if this call does
abbrev pub begun_of : History → ℕ → Option Body → Option Begun
begun_of h number call = option_map (since number (clock h.past)) call

-- what is said of waits
pub record LooksForWaits (old new : Observer) (h : History) (number : ℕ) (entry : Entry) : Type 0 where
  pub waits : new.waits
      ≡ turned old.filter h.shapes (clock h.past) (freed_by h.past entry) (begun_of h number (waiting_by entry)) old.waits
  pub text : string_bytes new.text ≡ string_bytes old.text
      ++ ended_line h.shapes (next_of entry) number (clock h.past)
      (if_taken old.filter h.shapes (ended (freed_by h.past entry) old.waits.begun))
  pub filter : new.filter ≡ old.filter
  pub calls : new.calls ≡ old.calls
  pub bodies : new.bodies ≡ old.bodies
  pub delays : new.delays ≡ old.delays

-- of bodies
pub record LooksForBodies (old new : Observer) (h : History) (number : ℕ) (entry : Entry) : Type 0 where
  pub bodies : KeepsCalls old.calls h.past → new.bodies
      ≡ turned old.filter h.shapes (clock h.past) (past.ended entry) (begun_of h number (past.started h.shapes h.past entry)) old.bodies
  pub calls : KeepsCalls old.calls h.past → KeepsCalls new.calls (entry ∷ h.past)
  pub filter : new.filter ≡ old.filter
  pub waits : new.waits ≡ old.waits
  pub delays : new.delays ≡ old.delays
  pub text : new.text ≡ old.text

-- of delays
pub record LooksForDelays (old new : Observer) (h : History) (number : ℕ) (entry : Entry) : Type 0 where
  pub delays : new.delays ≡ turned old.filter h.shapes (clock h.past) (woken_by entry) (delay_by entry number) old.delays
  pub filter : new.filter ≡ old.filter
  pub calls : new.calls ≡ old.calls
  pub waits : new.waits ≡ old.waits
  pub bodies : new.bodies ≡ old.bodies
  pub text : new.text ≡ old.text

-- an entry is looked at as the next one
abbrev pub Looks : Observer → Observer → History → ℕ → Entry → Type 0
Looks old new h number entry =
    (filter : FilterText) → Gathers filter old h.shapes h.past → number ≡ suc (length h.past) → Gathers filter new h.shapes (entry ∷ h.past)
