-- Who fires is a line.
use Rattle.std.proofs.Common.{◌≡◌, refl, ℕ, ◌-◌, ◌≤◌, Bool, true, false, Option, Some, None, arith}
use Rattle.std.specs.Prelude.{◌==◌, nat_lt, slice_get, if◌then◌else◌}
use Rattle.std.proofs.lemmas.Bool.Decides.{nat_tests}
use Rattle.rv_shape.specs.Catalogue.{UnitTask, Operator, Line, task_of, all_tasks, who}
use Rattle.rv_event.specs.Past.{mode}
use Rattle.rv_event.specs.declared.entry.Mode.{Mode}
use Rattle.rv_event.specs.declared.entry.Request.TheVariants.{Fire}
use Rattle.rv_history.specs.History.{History}
use Rattle.rv_history.specs.Owed.{actors}
use Rattle.rv_history.specs.Fitting.{fits, idle_line}
use Rattle.rv_history.proofs.Answered.{both}

no_task : (t : Option UnitTask) (m : Mode) → idle_line (task_of t) m ≡ true → ⊥
no_task None m e = absurd (cc)
no_task (Some t) m e = absurd (cc)

below : (a : ℕ) → nat_lt a 11 ≡ true → a ≤ 10
below a e = grind (arith, nat_tests)

first : (a : ℕ) → (a == 0) ≡ true → a ≤ 10
first a e = grind (arith, nat_tests)

by_tests : (a : ℕ) (s t : Bool) (w : Option UnitTask) (m : Mode) → (a == 0) ≡ s → nat_lt a 11 ≡ t →
    idle_line (if s then Operator else (if t then Line (a - 1) else task_of w)) m ≡ true → a ≤ 10
by_tests a true t w m e f g = first a e
by_tests a false true w m e f g = below a f
by_tests a false false w m e f g = absurd (no_task w m g)

pub fires_line : (h : History) (a : ℕ) → fits h a Fire ≡ true → a ≤ 10
fires_line h a e =
    by_tests a (a == 0) (nat_lt a 11) (slice_get (all_tasks h.shapes) (a - 11)) (mode h.shapes a h.past) refl refl
    (both (nat_lt a (actors h.shapes)) (idle_line (who h.shapes a) (mode h.shapes a h.past)) e).1
