-- What statements do (ISO/IEC 8652:2012, 5.1 to 5.7, 6.5, 11.3), one equation a form.
use Rattle.std.specs.Prelude.{ℕ, zero, suc, ℤ, [], Bool, int_lt, if◌then◌else◌, Option, Some, None, Result}
use Rattle.rv_event.specs.declared.entry.Exception.{Exception}
use Rattle.rv_event.specs.declared.entry.Exception.TheVariants.{ConstraintError, ProgramError}
use Rattle.rv_shape.specs.declared.kind.Range.{Range}
use Rattle.rv_code.specs.Statements.{Statement, null_statement, assign, choice, selection, while_loop, for_loop, exit_when, returns, returns_value, raises, reraises, calls, Statements, no_statements, and_statement, Branches, no_branches, and_branch, Alternatives, no_alternatives, and_alternative}
use Rattle.rv_exec.specs.declared.activation.Activation.{Activation}
use Rattle.rv_exec.specs.declared.end.Cause.{Cause}
use Rattle.rv_exec.specs.declared.end.Cause.TheVariants as cause
use Rattle.rv_exec.specs.declared.end.End.{End}
use Rattle.rv_exec.specs.declared.end.End.TheVariants as end
use Rattle.rv_exec.specs.Asking.{Asking, ended, and_then}
use Rattle.rv_exec.specs.Operators.{is_true}
use Rattle.rv_exec.specs.Activations.{assigned, stepped, put_slot, steps_left, copied_back, fits, span, value_before}
use Rattle.rv_exec.specs.Choices.{covered}
use Rattle.rv_exec.specs.Expressions.{on_value, value, arguments, passing}
use Rattle.rv_exec.specs.World.{World, Run}

abbrev pub abandons : Cause × Activation → Run
abandons (why, a) = ended (end.Abandoned why, a)

abbrev pub on_step : Activation → (Activation → Run) → Option Activation → Run
on_step a go None = ended (end.Abandoned cause.Overrun, a)
on_step a go (Some b) = go b

-- one statement step; where none is left the body is past its limit (own)
unfoldable pub step : Activation → (Activation → Run) → Run
step a go = on_step a go (stepped a)

-- the next statement
abbrev pub go_on : (Activation → Run) → End × Activation → Run
go_on go (end.Next, a) = go a
go_on go (end.Exit, a) = ended (end.Exit, a)
go_on go (end.Return v, a) = ended (end.Return v, a)
go_on go (end.Abandoned why, a) = ended (end.Abandoned why, a)

-- the next turn; an exit leaves the loop (5.7)
abbrev pub again : (Activation → Run) → End × Activation → Run
again go (end.Next, a) = go a
again go (end.Exit, a) = ended (end.Next, a)
again go (end.Return v, a) = ended (end.Return v, a)
again go (end.Abandoned why, a) = ended (end.Abandoned why, a)

-- turns while the condition is True (5.5), each of which takes a step: more turns than steps never come
unfoldable pub turns : ℕ → (Activation → Asking (Result ℤ Cause × Activation)) → (Activation → Run) → Activation → Run
turns zero condition body a = ended (end.Abandoned cause.Overrun, a)
turns (suc n) condition body a =
    and_then (condition a) (on_value abandons (λ v b.
    if is_true v then step b (λ c. and_then (body c) (again (turns n condition body))) else ended (end.Next, b)))

-- a turn for each value of the range, of which so many are left (5.5)
unfoldable pub values_over : ℕ → Bool → ℤ → ℤ → (slot : ℕ) → (Activation → Run) → Activation → Run
values_over zero is_reverse low high slot body a = ended (end.Next, a)
values_over (suc n) is_reverse low high slot body a =
    step a (λ b. and_then (body (put_slot slot (value_before is_reverse low high n) b)) (again (values_over n is_reverse low high slot body)))

-- a null range gives no turn; the bounds of another lie in its subtype (3.5)
abbrev pub for_each : Bool → Range → (slot : ℕ) → (Activation → Run) → ℤ → ℤ → Activation → Run
for_each is_reverse range slot body low high a =
    if int_lt high low then ended (end.Next, a)
    else (if fits range low high then values_over (span low high) is_reverse low high slot body a
    else ended (end.Abandoned (cause.Raised ConstraintError), a))

-- `exit when` (5.7)
abbrev pub exit_where : ℤ → End
exit_where v = if is_true v then end.Exit else end.Next

-- `raise;` (11.3)
abbrev pub raised_again : Option Exception → Cause
raised_again (Some exception) = cause.Raised exception
raised_again None = cause.Raised ProgramError

unfoldable mutual
  pub meaning : World → Statement → Activation → Run
  meaning w null_statement a = ended (end.Next, a)
  meaning w (assign target e) a = and_then (value w e a) (on_value abandons (λ v b. ended (assigned target v b)))
  meaning w (choice branches otherwise) a = first_true w branches (meanings w otherwise) a
  meaning w (selection e alternatives) a = and_then (value w e a) (on_value abandons (selected w alternatives))
  meaning w (while_loop e ss) a = turns (suc (steps_left a)) (value w e) (meanings w ss) a
  meaning w (for_loop slot is_reverse range low high ss) a =
      and_then (value w low a) (on_value abandons (λ v b. and_then (value w high b) (on_value abandons (for_each is_reverse range slot (meanings w ss) v))))
  meaning w (exit_when e) a = and_then (value w e a) (on_value abandons (λ v b. ended (exit_where v, b)))
  meaning w returns a = ended (end.Return None, a)
  meaning w (returns_value e) a = and_then (value w e a) (on_value abandons (λ v b. ended (end.Return (Some v), b)))
  meaning w (raises exception) a = ended (end.Abandoned (cause.Raised exception), a)
  meaning w reraises a = ended (end.Abandoned (raised_again w.handling), a)
  meaning w (calls callee es targets) a =
      and_then (passing w callee (arguments w es [] a)) (on_value abandons (λ given b. ended (copied_back targets 0 given b)))

  -- statements in their order, each of which takes a step (5.1)
  pub meanings : World → Statements → Activation → Run
  meanings w no_statements a = ended (end.Next, a)
  meanings w (and_statement s more) a = step a (λ b. and_then (meaning w s b) (go_on (meanings w more)))

  -- the statements behind the first condition that is True, else those behind `else` (5.3)
  pub first_true : World → Branches → (Activation → Run) → Activation → Run
  first_true w no_branches otherwise a = otherwise a
  first_true w (and_branch e ss more) otherwise a =
      and_then (value w e a) (on_value abandons (λ v b. if is_true v then meanings w ss b else first_true w more otherwise b))

  -- the statements of the first alternative that covers the value; where none does Constraint_Error is raised (5.4)
  pub selected : World → Alternatives → ℤ → Activation → Run
  selected w no_alternatives v a = ended (end.Abandoned (cause.Raised ConstraintError), a)
  selected w (and_alternative choices ss more) v a = if covered choices v then meanings w ss a else selected w more v a
