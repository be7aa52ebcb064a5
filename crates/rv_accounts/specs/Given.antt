-- What a start gives: the scalars of its object in the history (ISO/IEC 8652:2012, 9.5.1, 9.5.3, C.3).
use Rattle.std.specs.Prelude.{◌≡◌, ℕ, ◌≤◌, ℤ, false, List, [], ◌∷◌, ◌++◌, Some}
use Rattle.std.specs.List.{list_any}
use Rattle.rv_event.specs.Past.{innermost, is_own, scalars}
use Rattle.rv_event.specs.declared.entry.Answer.TheVariants.{Started, Queued, Woken}
use Rattle.rv_event.specs.declared.entry.Body.{Body}
use Rattle.rv_event.specs.declared.entry.Entry.{Entry}
use Rattle.rv_event.specs.declared.entry.Entry.TheVariants.{Asked}
use Rattle.rv_event.specs.declared.entry.Next.TheVariants.{HandedTo}
use Rattle.rv_event.specs.declared.entry.Recorded.TheVariants.{Done}
use Rattle.rv_event.specs.declared.entry.Request.{Request}
use Rattle.rv_event.specs.declared.entry.Request.TheVariants.{Call, Fire, Resume}
use Rattle.rv_exec.specs.Asking.{Trace}
use Rattle.rv_history.specs.Due.{out, scalars_held}
use Rattle.rv_history.specs.HandOver.{served, served_with}
use Rattle.rv_history.specs.History.{History}
use Rattle.rv_history.specs.Legal.{Legal}
use Rattle.rv_meant.specs.Histories.{asks_of}
use Rattle.rv_meant.specs.Explained.{Handles}

-- a call that starts gives the scalars that its object has there
abbrev pub CallsGiveScalars : Type 0
CallsGiveScalars =
    (h : History) (actor object operation : ℕ) (values components : List ℤ)
    → out h actor (Call object operation values) ≡ Started components → components ≡ scalars h.shapes object h.past

-- so does a line that fires
abbrev pub FiresGiveScalars : Type 0
FiresGiveScalars =
    (h : History) (actor object operation : ℕ) (components : List ℤ)
    → Handles h.shapes actor object operation → out h actor Fire ≡ Started components → components ≡ scalars h.shapes object h.past

-- and a caller that wakes with an object, of whose queued call that is then the innermost body
abbrev pub ResumesGiveScalars : Type 0
ResumesGiveScalars =
    (h : History) (actor : ℕ) (components : List ℤ)
    → out h actor Resume ≡ Woken (Some components) → components ≡ scalars_held h (innermost h.shapes actor h.past)

-- An end or a settle handed its object over to an actor, which asked nothing since: what the object had then, which an end leaves
-- it, are its scalars still (9.5.3).
pub record HandsScalars (h : History) (actor object : ℕ) (left : List ℤ) : Type 0 where
  pub later : List Entry
  pub past : List Entry
  pub by : ℕ
  pub request : Request
  pub split : h.past ≡ later ++ Asked by request (Done (HandedTo actor)) ∷ past
  pub silent : list_any (is_own actor) later ≡ false
  pub body : Body
  pub serving : served h.shapes by past request ≡ Some body
  pub there : body.object ≡ object
  pub had : left ≡ served_with h.shapes past request object
  pub still : left ≡ scalars h.shapes object h.past

-- So a caller is given, whose last ask was this call, which waited in a queue, what the object had where it was handed over.
abbrev pub HandedCallsGiveScalars : Type 0
HandedCallsGiveScalars =
    (h : History) (actor object operation : ℕ) (values components : List ℤ) (before : Trace)
    → 1 ≤ h.limits.capacity → Legal h
    → asks_of actor h ≡ before ++ (Call object operation values, Queued) ∷ []
    → out h actor Resume ≡ Woken (Some components) → HandsScalars h actor object components
