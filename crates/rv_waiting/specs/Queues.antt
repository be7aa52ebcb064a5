-- The queues of the objects' entries, and the history that they stand for (9.5.3, D.7).
use Rattle.std.specs.Prelude.{◌≡◌, ◌<◌, ℕ, List, [], ◌∷◌, ◌++◌, Option, Some, None, drop, length, map, slice_index_or, slice_set}
use Rattle.rv_event.specs.Past.{last_queued, named_in, next_of, queue}
use Rattle.rv_event.specs.declared.entry.Body.{Body}
use Rattle.rv_event.specs.declared.entry.Entry.{Entry}
use Rattle.rv_history.specs.Limits.{most_queued}
use Rattle.rv_history.specs.History.{History}
use Rattle.rv_history.specs.Legal.{Legal}
use Rattle.rv_waiting.specs.Limits.{most_places}

-- the callers that wait on an object, the one that waits longest first
abbrev pub callers : ℕ → List Entry → List ℕ
callers object past = map (λ call. call.actor) (queue object past)

-- each object has its callers
abbrev pub AreQueues : List Entry → List (List ℕ) → Type 0
AreQueues past queues = (object : ℕ) → slice_index_or queues object [] ≡ callers object past

-- the last queued call of an actor, if there is such a one
abbrev pub call_of : Option ℕ → List Entry → Option Body
call_of None past = None
call_of (Some actor) past = last_queued actor past

-- the queued call of the actor that an entry names as handed the object or dropped
abbrev pub named_call : Entry → List Entry → Option Body
named_call entry past = call_of (named_in (next_of entry)) past

-- the queues without the first caller on the object of a call, if there is such a one
abbrev pub left_by : Option Body → List (List ℕ) → List (List ℕ)
left_by None queues = queues
left_by (Some call) queues = slice_set queues call.object (drop 1 (slice_index_or queues call.object []))

-- the queues with the caller of a call as the last on its object
abbrev pub joined_by : Option Body → List (List ℕ) → List (List ℕ)
joined_by None queues = queues
joined_by (Some call) queues = slice_set queues call.object (slice_index_or queues call.object [] ++ call.actor ∷ [])

-- the call's object has a queue, with a place for one caller more
abbrev pub CanJoin : Body → List (List ℕ) → Type 0
CanJoin call queues = (call.object < most_places) × (length (slice_index_or queues call.object []) < most_queued)

-- after a history for which these queues stand, the entry comes next, and this is the queued call of whom it names
pub record Moves (h : History) (entry : Entry) (named : Option Body) (queues : List (List ℕ)) : Type 0 where
  pub queues_are : AreQueues h.past queues
  pub legal : Legal (record h { past = entry ∷ h.past })
  pub named_is : named ≡ named_call entry h.past
