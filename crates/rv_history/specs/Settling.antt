-- Objects that an end left unsettled, where queues may have several callers (9.5.3, own).
use Rattle.std.specs.Prelude.{◌≡◌, ◌≢◌, ◌⊎◌, ℕ, zero, suc, Bool, false, true, List, [], ◌∷◌, Some}
use Rattle.std.specs.List.{list_any}
use Rattle.rv_event.specs.Past.{is_unsettled, mode, queue, to_settle, under_way}
use Rattle.rv_event.specs.declared.entry.Body.{Body}
use Rattle.rv_event.specs.declared.entry.Answer.TheVariants.{Done}
use Rattle.rv_event.specs.declared.entry.Mode.TheVariants.{Settling}
use Rattle.rv_event.specs.declared.entry.Next.TheVariants.{HandedTo, Dropped}
use Rattle.rv_event.specs.declared.entry.Request.{Request}
use Rattle.rv_event.specs.declared.entry.Request.TheVariants.{Settle}
use Rattle.rv_history.specs.History.{History}
use Rattle.rv_history.specs.Fitting.{fits}
use Rattle.rv_history.specs.Legal.{after}
use Rattle.rv_history.specs.Orderly.{is_on}
use Rattle.rv_history.specs.Due.{out}

-- An actor whose end left the object of this body unsettled may settle it, and nothing else fits; nobody holds the
-- object, and this call is the first of those that wait there.
pub record HasToSettle (h : History) (actor : ℕ) (body first : Body) (behind : List Body) : Type 0 where
  pub left : to_settle h.shapes actor h.past ≡ Some body
  pub settling : mode h.shapes actor h.past ≡ Settling
  pub only : (request : Request) → fits h actor request ≡ true → request ≡ Settle
  pub free : list_any (is_on body.object) (under_way h.shapes h.past) ≡ false
  pub wait : queue body.object h.past ≡ first ∷ behind

-- the history after the actor settles, and is answered as is due
abbrev pub settled : History → ℕ → History
settled h actor = after h actor Settle (out h actor Settle)

-- there is one at least
abbrev pub is_any : List Body → Bool
is_any [] = false
is_any (call ∷ calls) = true

-- the first caller is handed the object, which then is settled; or it is dropped, and the object is settled unless others
-- wait behind
abbrev pub Serves : History → ℕ → ℕ → Body → List Body → Type 0
Serves h actor object first behind =
    ((out h actor Settle ≡ Done (HandedTo first.actor))
    × (is_unsettled h.shapes object (settled h actor).past ≡ false))
    ⊎ ((line : ℕ) × (out h actor Settle ≡ Done (Dropped first.actor line))
    × (is_unsettled h.shapes object (settled h actor).past ≡ is_any behind))

-- A settle serves the first caller and no other.
pub record ServesFirst (h : History) (actor object : ℕ) (first : Body) (behind : List Body) : Type 0 where
  pub serves : Serves h actor object first behind
  pub others_wait : queue object (settled h actor).past ≡ behind

-- the object is settled after at most so many settles of the actor
abbrev pub IsSettledWithin : ℕ → History → ℕ → ℕ → Type 0
IsSettledWithin zero h actor object = is_unsettled h.shapes object h.past ≡ false
IsSettledWithin (suc n) h actor object =
    (is_unsettled h.shapes object h.past ≡ false) ⊎ IsSettledWithin n (settled h actor) actor object

-- the request doesn't settle this object: it is no settle, or its actor has another object to settle
abbrev pub IsNoSettleOf : History → ℕ → Request → ℕ → Type 0
IsNoSettleOf h actor request object =
    request ≡ Settle → (body : Body) → to_settle h.shapes actor h.past ≡ Some body → body.object ≢ object

-- What others do leaves an unsettled object so, with those who wait there; and nobody gets into it.
pub record StaysUnsettled (before after : History) (object : ℕ) : Type 0 where
  pub still : is_unsettled after.shapes object after.past ≡ true
  pub wait : queue object after.past ≡ queue object before.past
  pub free : list_any (is_on object) (under_way after.shapes after.past) ≡ false
