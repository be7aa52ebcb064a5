-- No text asks a settle: a port makes it by itself behind an end, so it is no pair of a trace (own).
use Rattle.std.specs.Prelude.{◌≡◌, ℕ, ℤ, Bool, true, false, List, [], ◌∷◌}
use Rattle.rv_code.specs.Bodies.{UnitBodies}
use Rattle.rv_event.specs.declared.entry.Exit.{Exit}
use Rattle.rv_event.specs.declared.entry.Request.{Request}
use Rattle.rv_event.specs.declared.entry.Request.TheVariants.{Settle}
use Rattle.rv_exec.specs.Asking.{Trace, Along}
use Rattle.rv_exec.specs.Blocks.{operation_run_at}
use Rattle.rv_exec.specs.Tasks.{task_run}

-- whether it asks to settle an object
abbrev pub is_settle : Request → Bool
is_settle Settle = true
is_settle request = false

-- none of these asks is a settle
abbrev pub NeverSettles : Trace → Type 0
NeverSettles [] = Unit {0}
NeverSettles (pair ∷ more) = (is_settle pair.0 ≡ false) × NeverSettles more

-- a body asks none, nor does one that it calls
abbrev pub BodiesNeverSettle : Type 0
BodiesNeverSettle =
    (bodies : UnitBodies) (held object operation : ℕ) (values components left : List ℤ) (trace : Trace) (exit : Exit)
    → Along (operation_run_at bodies held object operation values components) trace (exit, left)
    → NeverSettles trace

-- nor does a task
abbrev pub TasksNeverSettle : Type 0
TasksNeverSettle =
    (bodies : UnitBodies) (actor requests : ℕ) (trace : Trace) (exit : Exit)
    → Along (task_run bodies actor requests) trace exit → NeverSettles trace
