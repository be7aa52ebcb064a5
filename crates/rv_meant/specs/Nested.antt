-- The ends of bodies inside one another: each closes a body that started in what was asked before it, and is what that body means
-- on what was asked between (ISO/IEC 8652:2012, 6.4, 9.5.1, 9.5.3).
use Rattle.std.specs.Prelude.{◌≡◌, ◌⊎◌, ℕ, ℤ, Bool, true, false, if◌then◌else◌, List, [], ◌∷◌, ◌++◌, None}
use Rattle.rv_code.specs.declared.expression.Callee.{Callee}
use Rattle.rv_code.specs.Bodies.{UnitBodies}
use Rattle.rv_fits.specs.Calls.{every_call}
use Rattle.rv_event.specs.declared.entry.Answer.{Answer}
use Rattle.rv_event.specs.declared.entry.Answer.TheVariants as answer
use Rattle.rv_event.specs.declared.entry.Exit.{Exit}
use Rattle.rv_event.specs.declared.entry.Exit.TheVariants as exit
use Rattle.rv_event.specs.declared.entry.Next.{Next}
use Rattle.rv_event.specs.declared.entry.Request.{Request}
use Rattle.rv_event.specs.declared.entry.Request.TheVariants as request
use Rattle.rv_exec.specs.declared.end.Asked.TheVariants as asked
use Rattle.rv_exec.specs.Asking.{Trace, Along}
use Rattle.rv_exec.specs.Calls.{asks, internal}
use Rattle.rv_exec.specs.Stops.{IsUnfit, IsUnfitWoken}
use Rattle.rv_exec.specs.Tasks.{task_run}
use Rattle.rv_exec.specs.Blocks.{operation_run_at}
use Rattle.rv_meant.specs.Asks.{held_behind, IsWhole, HoldsMore, AreRecorded, IsCourse}

-- Answers that the host doesn't give to what fits it (own)

-- the first of these, to a resume, is of a form that isn't given to such a callee
abbrev pub StraysWaiting : (Callee → Bool) → Request × Answer → Trace → Type 0
StraysWaiting such first [] = ⊥
StraysWaiting such first (pair ∷ more) = IsUnfitWoken such first.0 first.1 pair.0 pair.1

-- one of these answers is of a form that isn't given to such a callee
abbrev pub Strays : (Callee → Bool) → Trace → Type 0
Strays such [] = ⊥
Strays such (pair ∷ more) = IsUnfit such pair.0 pair.1 ⊎ (StraysWaiting such pair more ⊎ Strays such more)

-- Ends

abbrev pub by_stopped : Exit → Bool
by_stopped (exit.Return values) = false
by_stopped (exit.Raise exception) = false
by_stopped exit.Overrun = false
by_stopped exit.Stopped = true

-- An end by this exit, with these scalars, behind what an actor asked that held so many objects at first: a call came to the start
-- of a body, which has asked all since, with all bodies inside it, and means that end. What was asked before it has entries.
pub record ClosesBody (such : Callee → Bool) (bodies : UnitBodies) (held : ℕ) (before : Trace) (scalars : List ℤ) (exit : Exit) : Type 0 where
  pub early : Trace
  pub opening : Trace
  pub inside : Trace
  pub before_is : before ≡ early ++ (opening ++ inside)
  pub recorded : AreRecorded (early ++ opening)
  pub callee : Callee
  pub is_outer : internal callee ≡ None
  pub is_such : such callee ≡ true
  pub object : ℕ
  pub operation : ℕ
  pub is_function : Bool
  pub values : List ℤ
  pub components : List ℤ
  pub opens : Along (asks callee values) opening (asked.Started object operation is_function components)
  pub whole : IsWhole inside
  pub left : List ℤ
  pub along : Along (operation_run_at bodies (held_behind held (early ++ opening)) object operation values components) inside (exit, left)
  pub scalars_are : scalars ≡ (if is_function then [] else left)
  pub course : IsCourse (by_stopped exit) inside

-- Each end that is answered Done closes a body, or an answer before it is one that isn't given.
abbrev pub EndsClose : (Callee → Bool) → UnitBodies → ℕ → Trace → Type 0
EndsClose such bodies held trace =
    (before after : Trace) (scalars : List ℤ) (exit : Exit) (next : Next)
    → trace ≡ before ++ (request.Complete scalars exit, answer.Done next) ∷ after
    → Strays such before ⊎ ClosesBody such bodies held before scalars exit

-- a run that stopped left its actor in a body that it called: the end of that one wasn't answered Done (own)
abbrev pub IsLeftInside : Bool → Trace → Type 0
IsLeftInside stopped trace = (stopped ≡ true) × HoldsMore trace

-- What a run asks, of an actor that holds so many objects: its ends close bodies; and where each answer is one that is given, each
-- body that started has ended, and each ask has an entry, or is the one by which the run was cut off; or its actor is left in one.
pub record IsNested (such : Callee → Bool) (bodies : UnitBodies) (held : ℕ) (trace : Trace) (stopped : Bool) : Type 0 where
  pub close : EndsClose such bodies held trace
  pub course : Strays such trace ⊎ ((IsWhole trace × IsCourse stopped trace) ⊎ IsLeftInside stopped trace)

-- so is what a body asks that calls such callees alone
abbrev pub BodiesNest : Type 0
BodiesNest =
    (such : Callee → Bool) (bodies : UnitBodies) (held object operation : ℕ) (values components left : List ℤ) (trace : Trace) (exit : Exit)
    → every_call such bodies ≡ true
    → Along (operation_run_at bodies held object operation values components) trace (exit, left)
    → IsNested such bodies held trace (by_stopped exit)

-- and what a task asks, of whom nothing is held at first: behind it may come its quit
pub record TaskNests (such : Callee → Bool) (bodies : UnitBodies) (trace : Trace) (exit : Exit) : Type 0 where
  pub asked : Trace
  pub quit : Trace
  pub trace_is : trace ≡ asked ++ quit
  pub nested : IsNested such bodies 0 asked (by_stopped exit)
  pub quits : (quit ≡ []) ⊎ ((answer : Answer) × (quit ≡ (request.Quit, answer) ∷ []))

abbrev pub TasksNest : Type 0
TasksNest =
    (such : Callee → Bool) (bodies : UnitBodies) (actor requests : ℕ) (trace : Trace) (exit : Exit)
    → every_call such bodies ≡ true
    → Along (task_run bodies actor requests) trace exit → TaskNests such bodies trace exit
