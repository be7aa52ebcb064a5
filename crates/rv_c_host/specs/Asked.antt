-- What a call comes to that asks a request of the host behind a handle (own).
use Rattle.std.specs.Prelude.{◌≡◌, ◌&&◌, nat_le, if◌then◌else◌, ℕ, ℤ, List, [], ◌∷◌, length, slice_get, Option, Some, None, option_map, MatchOption}
use Rattle.rv_event.specs.declared.entry.Answer.{Answer}
use Rattle.rv_event.specs.declared.entry.Exception.TheVariants.{ConstraintError, ProgramError, AccessDenied}
use Rattle.rv_event.specs.declared.entry.Exit.{Exit}
use Rattle.rv_event.specs.declared.entry.Exit.TheVariants.{Return, Raise, Overrun, Stopped}
use Rattle.rv_event.specs.declared.entry.Request.{Request}
use Rattle.rv_event.specs.declared.entry.Request.TheVariants.{Call, Complete}
use Rattle.rv_history.specs.Due as due
use Rattle.rv_history.specs.Legal as legal
use Rattle.rv_kept.specs.Keeping.{Fires, Goes}
use Rattle.rv_kept.specs.declared.kept.Kept.{Kept}
use Rattle.rv_c_host.specs.Numbers.{kind_of, told_of, no_host, bad_request}
use Rattle.rv_c_host.specs.declared.told.Told.{Told}

-- nothing is asked: this is the status, and all is as before
abbrev pub Unasked : ℤ → Option Kept → Option Kept → Told → Told → ℤ → Type 0
Unasked why old new before after status = (new ≡ old) × (after ≡ before) × (status ≡ why)

-- the host answers a request of an actor as is due on its history, which goes on by it and no more; and the caller gets that answer
pub record Answers (actor : ℕ) (request : Request) (k : Kept) (new : Option Kept) (before after : Told) (status : ℤ) : Type 0 where
  pub history : new ≡ Some (record k { host = legal.after k.host actor request (due.out k.host actor request) })
  pub told : after ≡ told_of (due.out k.host actor request) before
  pub kind : status ≡ kind_of (due.out k.host actor request)

-- a request of an actor is asked, of the host behind a handle, if there is one
abbrev pub Asks : ℕ → Request → Option Kept → Option Kept → Told → Told → ℤ → Type 0
Asks actor request old new before after status =
    MatchOption old (Unasked no_host old new before after status) (λ k. Answers actor request k new before after status)

-- what is behind a handle comes to an answer so, and the caller gets that
pub record Comes (so : Kept → Kept → Answer → Type 0) (k : Kept) (new : Option Kept) (before after : Told) (status : ℤ) : Type 0 where
  pub now : Kept
  pub answer : Answer
  pub is : new ≡ Some now
  pub comes : so k now answer
  pub told : after ≡ told_of answer before
  pub kind : status ≡ kind_of answer

-- the interrupt of a line, by whose answer the text of its handler begins
abbrev pub FiresLine : ℕ → Option Kept → Option Kept → Told → Told → ℤ → Type 0
FiresLine line old new before after status =
    MatchOption old (Unasked no_host old new before after status) (λ k. Comes (Fires line) k new before after status)

-- one request of an actor's text
abbrev pub GoesOn : ℕ → Option Kept → Option Kept → Told → Told → ℤ → Type 0
GoesOn actor old new before after status =
    MatchOption old (Unasked no_host old new before after status) (λ k. Comes (Goes actor) k new before after status)

-- the same of what may be no request
abbrev pub AsksIf : ℕ → Option Request → Option Kept → Option Kept → Told → Told → ℤ → Type 0
AsksIf actor asked old new before after status =
    MatchOption asked (Unasked bad_request old new before after status) (λ request. Asks actor request old new before after status)

-- a request of the operator is asked, whose answer is its kind alone
abbrev pub Orders : Request → Option Kept → Option Kept → ℤ → Type 0
Orders request old new status = MatchOption old
    ((new ≡ old) × (status ≡ no_host))
    (λ k. (new ≡ Some (record k { host = legal.after k.host 0 request (due.out k.host 0 request) })) × (status ≡ kind_of (due.out k.host 0 request)))

-- the call of an operation of an object, with as many values as a call may have
abbrev pub call_of : ℕ → ℕ → List ℤ → Option Request
call_of object operation values = if nat_le (length values) 4 then Some (Call object operation values) else None

-- how a body ends, by a number from 0
abbrev pub exits : List ℤ → List Exit
exits values = Return values ∷ Raise ConstraintError ∷ Raise ProgramError ∷ Raise AccessDenied ∷ Overrun ∷ Stopped ∷ []

abbrev pub exit_of : ℕ → List ℤ → Option Exit
exit_of number values = slice_get (exits values) number

-- the end of a body that leaves these components
abbrev pub end_of : List ℤ → ℕ → List ℤ → Option Request
end_of scalars number values =
    if nat_le (length scalars) 32 && nat_le (length values) 4 then option_map (Complete scalars) (exit_of number values) else None
