-- What expressions evaluate to (ISO/IEC 8652:2012, 4.4, 6.4), from left to right (own).
use Rattle.std.specs.Prelude.{ℕ, ℤ, pos, List, [], if◌then◌else◌, Option, Some, None, Result, Ok, Err, slice_index_or}
use Rattle.rv_code.specs.Callees.{of_object}
use Rattle.rv_code.specs.declared.expression.Callee.{Callee}
use Rattle.rv_code.specs.Expressions.{Expression, literal, variable, component, prefixed, chain, call, Expressions, no_expressions, and_expression, Links, no_links, and_link}
use Rattle.rv_code.specs.Expressions as code
use Rattle.rv_exec.specs.declared.activation.Activation.{Activation}
use Rattle.rv_exec.specs.declared.end.Cause.{Cause}
use Rattle.rv_exec.specs.declared.end.Cause.TheVariants as cause
use Rattle.rv_exec.specs.Asking.{Asking, ended, and_then}
use Rattle.rv_exec.specs.Operators.{prefix_of, within, decides, result_of}
use Rattle.rv_exec.specs.Activations.{joined, spent, refilled}
use Rattle.rv_exec.specs.Calls.{Outcome, internal}
use Rattle.rv_exec.specs.World.{World, Got, GotAll}

-- goes on with a value, or is abandoned
abbrev pub on_value : {A B : Type 0} → (Cause × Activation → B) → (A → Activation → B) → Result A Cause × Activation → B
on_value abandoned go (Ok v, a) = go v a
on_value abandoned go (Err why, a) = abandoned (why, a)

abbrev pub fails : {A : Type 0} → Cause × Activation → Asking (Result A Cause × Activation)
fails (why, a) = ended (Err why, a)

-- an internal call is over: it worked on the same components, and took of the same steps
abbrev pub returned : Activation → Outcome × (List ℤ × ℕ) → Asking GotAll
returned a (outcome, (components, steps)) = ended (outcome, record a { components = components; steps = steps })

abbrev pub answered : World → Activation → Outcome → Asking GotAll
answered w a outcome = ended (outcome, refilled w.is_task a)

-- what is asked of the host costs a task's own body one request
abbrev pub asked_by : World → Callee → List ℤ → Activation → Option Activation → Asking GotAll
asked_by w callee values a None = ended (Err cause.Overrun, a)
asked_by w callee values a (Some b) = and_then (w.outer callee values) (answered w b)

abbrev pub called_by : World → Option ℕ → Callee → List ℤ → Activation → Asking GotAll
called_by w (Some operation) callee values a = and_then (w.inner operation values a.components a.steps) (returned a)
called_by w None callee values a = asked_by w callee values a (spent w.is_task a)

-- a call with these values (6.4, 9.5): an entry of the same object is one of the object whose body it is
unfoldable pub called : World → Callee → List ℤ → Activation → Asking GotAll
called w callee values a = called_by w (internal callee) (of_object w.object callee) values a

-- a call, behind its arguments (6.4.1)
abbrev pub passing : World → Callee → Asking GotAll → Asking GotAll
passing w callee given_values = and_then given_values (on_value fails (called w callee))

-- the value that a call gives
abbrev pub first_given : Activation → Outcome → Got
first_given a (Ok values) = (Ok (slice_index_or values 0 (pos 0)), a)
first_given a (Err why) = (Err why, a)

abbrev pub given : GotAll → Asking Got
given (outcome, a) = ended (first_given a outcome)

unfoldable mutual
  -- the value of an expression
  pub value : World → Expression → Activation → Asking Got
  value w (literal n) a = ended (Ok n, a)
  value w (variable slot) a = ended (Ok (slice_index_or a.slots slot (pos 0)), a)
  value w (component index) a = ended (Ok (slice_index_or a.components index (pos 0)), a)
  value w (prefixed op e) a = and_then (value w e a) (on_value fails (λ v b. ended (prefix_of op v, b)))
  value w (chain e links) a = and_then (value w e a) (on_value fails (linked w links))
  value w (code.within range e) a = and_then (value w e a) (on_value fails (λ v b. ended (within range v, b)))
  value w (call callee es) a = and_then (passing w callee (arguments w es [] a)) given

  -- the value of a chain from a link on: an operand is skipped where the value so far decides (4.5.1)
  pub linked : World → Links → ℤ → Activation → Asking Got
  linked w no_links v a = ended (Ok v, a)
  linked w (and_link op e more) v a =
      if decides op v
      then linked w more v a
      else and_then (value w e a) (on_value fails (λ u b. on_value fails (linked w more) (result_of op v u, b)))

  -- the values of arguments, behind those before them
  pub arguments : World → Expressions → List ℤ → Activation → Asking GotAll
  arguments w no_expressions values a = ended (Ok values, a)
  arguments w (and_expression e more) values a = and_then (value w e a) (on_value fails (λ v b. arguments w more (joined values v) b))
