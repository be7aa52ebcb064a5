-- What becomes of a queued caller at the end of a body, or where an object is settled (9.5.3, own).
use Rattle.std.specs.Prelude.{◌≡◌, ◌≢◌, ℕ, ℤ, Bool, true, false, List, [], ◌∷◌, Some, None, Option}
use Rattle.rv_shape.specs.Shape.{Shape}
use Rattle.rv_shape.specs.Catalogue.{place, target, shares}
use Rattle.rv_event.specs.Past.{halted, held, innermost, last_queued, mode, queue, scalars, to_settle}
use Rattle.rv_event.specs.declared.entry.Body.{Body}
use Rattle.rv_event.specs.declared.entry.Answer.TheVariants.{Woken}
use Rattle.rv_event.specs.declared.entry.Entry.{Entry}
use Rattle.rv_event.specs.declared.entry.Mode.{Mode}
use Rattle.rv_event.specs.declared.entry.Mode.TheVariants.{Handed, Settling}
use Rattle.rv_event.specs.declared.entry.Request.{Request}
use Rattle.rv_event.specs.declared.entry.Request.TheVariants.{Complete, Settle, Resume}
use Rattle.rv_history.specs.History.{History}
use Rattle.rv_history.specs.Subject.{subject}
use Rattle.rv_history.specs.Exclusion.{barrier_at, excluded, opens_on, is_open}
use Rattle.rv_history.specs.Rules.{decided, granted}
use Rattle.rv_history.specs.Fitting.{fits}
use Rattle.rv_history.specs.Due.{out}

-- the requests that serve a queue: an end or a settle
abbrev pub serves : Request → Bool
serves (Complete values exit) = true
serves Settle = true
serves request = false

-- the body whose object's queue a request serves: of an end the actor's innermost, of a settle the one whose end left
-- the object unsettled
abbrev pub served : List Shape → ℕ → List Entry → Request → Option Body
served shapes actor past (Complete values exit) = innermost shapes actor past
served shapes actor past Settle = to_settle shapes actor past
served shapes actor past request = None

-- the scalars that the object then has: an end leaves its own
abbrev pub served_with : List Shape → List Entry → Request → ℕ → List ℤ
served_with shapes past (Complete values exit) object = values
served_with shapes past request object = scalars shapes object past

-- the end of a function, which serves nobody
abbrev pub ends_shared : List Shape → Request → Body → Bool
ends_shared shapes (Complete values exit) body = shares (target shapes body.object body.operation)
ends_shared shapes request body = false

-- A request comes to a queued call: it fits and is the end of a body that isn't a function's, or a settle; the host isn't
-- halted, the barrier is open on the scalars that the body's object then has, and the call is the first in its queue.
pub record Reaches (h : History) (actor : ℕ) (request : Request) (call : Body) : Type 0 where
  pub fitting : fits h actor request ≡ true
  pub body : Body
  pub serving : served h.shapes actor h.past request ≡ Some body
  pub exclusive : ends_shared h.shapes request body ≡ false
  pub going : halted h.past ≡ false
  pub open_to :
      opens_on (barrier_at (place h.shapes body.object)) (served_with h.shapes h.past request body.object) ≡ true
  pub behind : List Body
  pub first : queue body.object h.past ≡ call ∷ behind

-- the list in force grants the call to its caller
pub record IsHandedOver (h : History) (actor : ℕ) (request : Request) (caller : ℕ) : Type 0 where
  pub call : Body
  pub reached : Reaches h actor request call
  pub its : call.actor ≡ caller
  pub grant : granted h (subject h call.actor) (target h.shapes call.object call.operation) ≡ true

-- it doesn't, and this line decides
pub record IsDropped (h : History) (actor : ℕ) (request : Request) (caller line : ℕ) : Type 0 where
  pub call : Body
  pub reached : Reaches h actor request call
  pub its : call.actor ≡ caller
  pub denial : granted h (subject h call.actor) (target h.shapes call.object call.operation) ≡ false
  pub line_is : line ≡ decided h (subject h call.actor) (target h.shapes call.object call.operation)

-- An end or a settle after this past handed over. The caller held nothing, and now holds its queued call's body, on the
-- object of the end or settle; it is handed, and will be woken with the scalars that the object then had.
pub record IsHanded (h : History) (past : List Entry) (actor : ℕ) (request : Request) (caller : ℕ) : Type 0 where
  pub body : Body
  pub serving : served h.shapes actor past request ≡ Some body
  pub call : Body
  pub queued : last_queued caller past ≡ Some call
  pub its : call.actor ≡ caller
  pub there : call.object ≡ body.object
  pub held_before : held h.shapes caller past ≡ []
  pub holds : held h.shapes caller h.past ≡ call ∷ []
  pub is_handed : mode h.shapes caller h.past ≡ Handed
  pub wakes : out h caller Resume ≡ Woken (Some (served_with h.shapes past request body.object))

-- one that left others waiting settles, else it is at this
abbrev pub settling_behind : List Body → Mode → Mode
settling_behind [] at = at
settling_behind (call ∷ calls) at = Settling

-- A denial leads to a history in which the caller has left its queue, and its actor has the object to settle where others
-- wait behind; all else is as where the same request named nobody.
pub record IsOnlyDropped (h dropped ended : History) (actor caller : ℕ) : Type 0 where
  pub call : Body
  pub its : call.actor ≡ caller
  pub behind : List Body
  pub was : queue call.object h.past ≡ call ∷ behind
  pub left : queue call.object dropped.past ≡ behind
  pub queues_stay : (object : ℕ) → object ≢ call.object → queue object dropped.past ≡ queue object h.past
  pub scalars_stay : (object : ℕ) → scalars dropped.shapes object dropped.past ≡ scalars ended.shapes object ended.past
  pub barriers_stay : (object : ℕ) → is_open dropped object ≡ is_open ended object
  pub held_stays : (other : ℕ) → held dropped.shapes other dropped.past ≡ held ended.shapes other ended.past
  pub exclusion_stays : (object : ℕ) → object ≢ call.object → (function : Bool) →
      excluded dropped object function ≡ excluded ended object function
  pub own_mode : mode dropped.shapes actor dropped.past ≡ settling_behind behind (mode ended.shapes actor ended.past)
  pub modes_stay : (other : ℕ) → other ≢ caller → other ≢ actor →
      mode dropped.shapes other dropped.past ≡ mode ended.shapes other ended.past
