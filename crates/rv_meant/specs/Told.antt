-- Ends that a run asked are explained, where the history has what it asked (own).
use Rattle.std.specs.Prelude.{◌≡◌, ◌⊎◌, ℕ, ℤ, true, if◌then◌else◌, List, [], ◌∷◌, ◌++◌}
use Rattle.rv_shape.specs.Shape.{Shape}
use Rattle.rv_shape.specs.Catalogue.{target, shares}
use Rattle.rv_code.specs.Bodies.{UnitBodies}
use Rattle.rv_fits.specs.Fits.{callee_fits, calls_fit}
use Rattle.rv_event.specs.declared.entry.Answer.{Answer}
use Rattle.rv_event.specs.declared.entry.Answer.TheVariants as answer
use Rattle.rv_event.specs.declared.entry.Exit.{Exit}
use Rattle.rv_event.specs.declared.entry.Next.{Next}
use Rattle.rv_event.specs.declared.entry.Request.{Request}
use Rattle.rv_event.specs.declared.entry.Request.TheVariants as request
use Rattle.rv_exec.specs.Asking.{Trace, Along}
use Rattle.rv_exec.specs.Stops.{is_final, stops_bodies}
use Rattle.rv_exec.specs.Tasks.{task_run}
use Rattle.rv_history.specs.Due.{out}
use Rattle.rv_history.specs.History.{History}
use Rattle.rv_exec.specs.Blocks.{operation_run_at}
use Rattle.rv_meant.specs.Asks.{held_behind, HoldsMore, AreRecorded, recorded_of}
use Rattle.rv_meant.specs.Nested.{Strays}
use Rattle.rv_meant.specs.Histories.{asks_of, without_last}
use Rattle.rv_meant.specs.Explained.{StartsBody, on_protected, MeantEnd}

-- In a history an actor asked first this, and then what of these asks has entries. Of the others, one that was answered Halted or
-- Full was due Halted, Full or Misuse on a front of the history, on which the actor had asked just what stands before it.
pub record HasAsked (h : History) (actor : ℕ) (first asked : Trace) : Type 0 where
  pub has : asks_of actor h ≡ first ++ recorded_of asked
  pub due :
      (done : Trace) (request : Request) (answer : Answer) (behind : Trace) → asked ≡ done ++ (request, answer) ∷ behind → is_final answer ≡ true
      → (later : ℕ) × (asks_of actor (without_last later h) ≡ first ++ recorded_of done) × (stops_bodies (out (without_last later h) actor request) ≡ true)

-- Bodies fit these units, and a history has these and more.
pub record FitBehind (shapes : List Shape) (bodies : UnitBodies) (h : History) : Type 0 where
  pub fit : calls_fit shapes bodies ≡ true
  pub more : List Shape
  pub loaded : h.shapes ≡ shapes ++ more

-- Each end inside a body's run, which began behind what its actor had asked first: behind a history that has all up to it, it is
-- explained, or an answer before it is one that the host doesn't give.
abbrev pub InnerEndsAreExplained : Type 0
InnerEndsAreExplained =
    (shapes : List Shape) (bodies : UnitBodies) (h : History) (actor : ℕ) (first : Trace)
    (object operation : ℕ) (values components left : List ℤ) (exit : Exit)
    (before after : Trace) (scalars : List ℤ) (ended : Exit) (next : Next)
    → FitBehind shapes bodies h
    → Along (operation_run_at bodies (held_behind 0 first) object operation values components) (before ++ (request.Complete scalars ended, answer.Done next) ∷ after) (exit, left)
    → HasAsked h actor first before
    → Strays (callee_fits shapes) before ⊎ MeantEnd shapes bodies h actor scalars ended

-- the same of the end of the body itself, of which the actor's first asks have the start; or it left its actor in a body
abbrev pub OuterEndsAreExplained : Type 0
OuterEndsAreExplained =
    (shapes : List Shape) (bodies : UnitBodies) (h : History) (actor : ℕ) (early opening : Trace)
    (object operation : ℕ) (values components left : List ℤ) (exit : Exit) (trace : Trace)
    → FitBehind shapes bodies h → AreRecorded (early ++ opening)
    → on_protected (target shapes object operation) ≡ true
    → StartsBody h.shapes actor opening object operation values components
    → Along (operation_run_at bodies (held_behind 0 (early ++ opening)) object operation values components) trace (exit, left)
    → HasAsked h actor (early ++ opening) trace
    → Strays (callee_fits shapes) trace ⊎ (HoldsMore trace ⊎ MeantEnd shapes bodies h actor (if shares (target h.shapes object operation) then [] else left) exit)

-- the same of each end inside a task's run, who held nothing before
abbrev pub TaskEndsAreExplained : Type 0
TaskEndsAreExplained =
    (shapes : List Shape) (bodies : UnitBodies) (h : History) (actor requests : ℕ) (first : Trace) (exit : Exit)
    (before after : Trace) (scalars : List ℤ) (ended : Exit) (next : Next)
    → FitBehind shapes bodies h → held_behind 0 first ≡ 0
    → Along (task_run bodies actor requests) (before ++ (request.Complete scalars ended, answer.Done next) ∷ after) exit
    → HasAsked h actor first before
    → Strays (callee_fits shapes) before ⊎ MeantEnd shapes bodies h actor scalars ended
