-- What statements run in (own).
use Rattle.std.specs.Prelude.{ℕ, ℤ, List, Bool, Option, Result}
use Rattle.rv_event.specs.declared.entry.Exception.{Exception}
use Rattle.rv_code.specs.declared.expression.Callee.{Callee}
use Rattle.rv_exec.specs.declared.activation.Activation.{Activation}
use Rattle.rv_exec.specs.declared.end.Cause.{Cause}
use Rattle.rv_exec.specs.declared.end.End.{End}
use Rattle.rv_exec.specs.Asking.{Asking}
use Rattle.rv_exec.specs.Calls.{Outcome}

-- what no statement changes
pub record World : Type 0 where
  -- what an internal call does: of the operation, with its values, the components and the steps left; it gives the
  -- outcome, the components and the steps left then
  pub inner : ℕ → List ℤ → List ℤ → ℕ → Asking (Outcome × (List ℤ × ℕ))
  -- what a call of another object, a delay or Clock does, with its values
  pub outer : Callee → List ℤ → Asking Outcome
  -- the number of the object whose body it is, 0 in a task's own
  pub object : ℕ
  -- whether it is a task's own body
  pub is_task : Bool
  -- the exception that is handled, in a handler
  pub handling : Option Exception

-- a run of statements: how it ends, and the activation then
abbrev pub Run : Type 0
Run = Asking (End × Activation)

abbrev pub Got : Type 0
Got = Result ℤ Cause × Activation

abbrev pub GotAll : Type 0
GotAll = Outcome × Activation
