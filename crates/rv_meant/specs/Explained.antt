-- What explains a recorded end of a body: what its text means on what its actor asked between its start and its end (ISO/IEC
-- 8652:2012, 5, 6.4, 9.5.1, 9.5.3, 11.4, C.3; limits own).
use Rattle.std.specs.Prelude.{◌≡◌, ◌⊎◌, ℕ, ◌-◌, ℤ, Bool, true, false, if◌then◌else◌, List, [], ◌∷◌, ◌++◌, Some}
use Rattle.rv_shape.specs.Shape.{Shape}
use Rattle.rv_shape.specs.Catalogue.{Target, Nowhere, OnProtected, OnSuspension, target, shares, handler}
use Rattle.rv_code.specs.Bodies.{UnitBodies}
use Rattle.rv_event.specs.declared.entry.Answer.{Answer}
use Rattle.rv_event.specs.declared.entry.Answer.TheVariants.{Started, Queued, Woken}
use Rattle.rv_event.specs.declared.entry.Exit.{Exit}
use Rattle.rv_event.specs.declared.entry.Request.{Request}
use Rattle.rv_event.specs.declared.entry.Request.TheVariants.{Call, Fire, Resume}
use Rattle.rv_exec.specs.Asking.{Trace, Along}
use Rattle.rv_exec.specs.Stops.{is_final, stops_bodies}
use Rattle.rv_history.specs.Due.{out}
use Rattle.rv_history.specs.History.{History}
use Rattle.rv_exec.specs.Blocks.{operation_run_at}
use Rattle.rv_meant.specs.Asks.{held_behind, IsWhole, AreStoppedEnds}
use Rattle.rv_meant.specs.Histories.{asks_of, without_last}
use Rattle.rv_meant.specs.Nested.{by_stopped}

-- Starts

-- the operation that a line calls, if it has a handler (C.3.1)
abbrev pub Handles : List Shape → ℕ → (object operation : ℕ) → Type 0
Handles shapes actor object operation = handler shapes (actor - 1) ≡ Some (record { object = object; operation = operation })

-- An actor asked this, and with it the body of this operation started, on these values and components: a call that was answered
-- Started, or that waited in a queue and was handed the object; or a line that fired (9.5.1, 9.5.3, C.3).
abbrev pub StartsBody : List Shape → ℕ → Trace → (object operation : ℕ) → List ℤ → List ℤ → Type 0
StartsBody shapes actor opening object operation values components =
    (opening ≡ (Call object operation values, Started components) ∷ [])
    ⊎ ((opening ≡ (Call object operation values, Queued) ∷ (Resume, Woken (Some components)) ∷ [])
    ⊎ ((opening ≡ (Fire, Started components) ∷ []) × Handles shapes actor object operation × (values ≡ [])))

-- Stops (own)

-- On a front of a history, on which its actor had asked all this, and of these ends some, one more ask of it is due Halted, Full or
-- Misuse.
pub record StopDue (h : History) (actor : ℕ) (asked ends : Trace) (request : Request) : Type 0 where
  pub later : ℕ
  pub by_then : Trace
  pub others : Trace
  pub ends_are : ends ≡ by_then ++ others
  pub had_asked : asks_of actor (without_last later h) ≡ asked ++ by_then
  pub due : stops_bodies (out (without_last later h) actor request) ≡ true

-- What a body asked that was stopped: behind what was asked before it, all that is recorded, with one ask between that has no entry,
-- and that stopped it, or a body inside it; behind that come ends by stopped alone.
pub record Stopped (h : History) (actor : ℕ) (before inside trace : Trace) : Type 0 where
  pub done : Trace
  pub request : Request
  pub answer : Answer
  pub ends : Trace
  pub inside_is : inside ≡ done ++ ends
  pub trace_is : trace ≡ done ++ (request, answer) ∷ ends
  pub final : is_final answer ≡ true
  pub are_ends : AreStoppedEnds ends
  pub due : StopDue h actor (before ++ done) ends request

-- what a body asked, behind what its actor asked before it: what is recorded; one that was stopped asked once more
abbrev pub Recounts : Bool → History → ℕ → (before inside trace : Trace) → Type 0
Recounts false h actor before inside trace = trace ≡ inside
Recounts true h actor before inside trace = Stopped h actor before inside trace

-- Ends

-- an operation of a protected object, which may have a body (9.4)
abbrev pub on_protected : Target → Bool
on_protected (OnProtected site) = true
on_protected Nowhere = false
on_protected (OnSuspension unit name wanted) = false

-- An end of an actor behind a history, by this exit and with these scalars, none of a function: in what the actor asked there is a
-- start of a body, behind which all that started has ended; and of these bodies that of its operation, of an actor that holds as
-- many objects as this one did then, ends so, on the values and the components of the start, by what it asked since. The bodies
-- are those of these units, of which one has the operation.
pub record MeantEnd (shapes : List Shape) (bodies : UnitBodies) (h : History) (actor : ℕ) (scalars : List ℤ) (exit : Exit) : Type 0 where
  pub early : Trace
  pub opening : Trace
  pub inside : Trace
  pub asked_is : asks_of actor h ≡ early ++ (opening ++ inside)
  pub object : ℕ
  pub operation : ℕ
  pub values : List ℤ
  pub components : List ℤ
  pub loaded : on_protected (target shapes object operation) ≡ true
  pub opens : StartsBody h.shapes actor opening object operation values components
  pub whole : IsWhole inside
  pub trace : Trace
  pub recounts : Recounts (by_stopped exit) h actor (early ++ opening) inside trace
  pub leaves : List ℤ
  pub along : Along (operation_run_at bodies (held_behind 0 (early ++ opening)) object operation values components) trace (exit, leaves)
  pub scalars_are : scalars ≡ (if shares (target h.shapes object operation) then [] else leaves)
