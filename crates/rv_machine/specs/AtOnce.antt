-- What comes to its value, or to its end, at once (own): it asks nothing, whatever the statements run in.
use Rattle.std.specs.Prelude.{◌≡◌, ℤ, Some, Result, Ok, Err}
use Rattle.rv_shape.specs.declared.kind.Range.{Range}
use Rattle.rv_code.specs.declared.expression.Operator.{Operator}
use Rattle.rv_code.specs.declared.expression.Prefix.{Prefix}
use Rattle.rv_code.specs.declared.statement.Target.{Target}
use Rattle.rv_code.specs.Expressions.{Expression, Links, and_link}
use Rattle.rv_code.specs.Statements.{Statement}
use Rattle.rv_exec.specs.declared.activation.Activation.{Activation}
use Rattle.rv_exec.specs.declared.end.Cause.{Cause}
use Rattle.rv_exec.specs.declared.end.End.{End}
use Rattle.rv_exec.specs.declared.end.End.TheVariants as ends
use Rattle.rv_exec.specs.Activations.{assigned}
use Rattle.rv_exec.specs.Asking.{ended}
use Rattle.rv_exec.specs.Expressions.{on_value, fails, value, linked}
use Rattle.rv_exec.specs.Operators.{prefix_of, within, result_of}
use Rattle.rv_exec.specs.Statements.{meaning, exit_where}
use Rattle.rv_exec.specs.World.{World}

-- an expression has this value, or fails by this cause
abbrev pub HasValue : Expression → Activation → Result ℤ Cause → Type 0
HasValue e a v = (w : World) → value w e a ≡ ended (v, a)

-- a link leads from a value to this one, whatever links stand behind it
abbrev pub LinkGives : Operator → Expression → ℤ → Activation → Result ℤ Cause → Type 0
LinkGives op e u a v = (w : World) (more : Links) → linked w (and_link op e more) u a ≡ on_value fails (linked w more) (v, a)

-- links lead from a value to this one
abbrev pub LinkTo : Links → ℤ → Activation → Result ℤ Cause → Type 0
LinkTo ls u a v = (w : World) → linked w ls u a ≡ ended (v, a)

-- a statement ends so, with this activation
abbrev pub EndsSo : Statement → Activation → End → Activation → Type 0
EndsSo x a e b = (w : World) → meaning w x a ≡ ended (e, b)

-- what is made of the value of a part, which may fail
abbrev pub after_prefix : Prefix → Result ℤ Cause → Result ℤ Cause
after_prefix op (Ok v) = prefix_of op v
after_prefix op (Err why) = Err why

abbrev pub after_range : Range → Result ℤ Cause → Result ℤ Cause
after_range range (Ok v) = within range v
after_range range (Err why) = Err why

abbrev pub after_operator : Operator → ℤ → Result ℤ Cause → Result ℤ Cause
after_operator op u (Ok v) = result_of op u v
after_operator op u (Err why) = Err why

abbrev pub assigned_after : Target → Result ℤ Cause → Activation → End × Activation
assigned_after target (Ok v) a = assigned target v a
assigned_after target (Err why) a = (ends.Abandoned why, a)

abbrev pub exit_after : Result ℤ Cause → End
exit_after (Ok v) = exit_where v
exit_after (Err why) = ends.Abandoned why

abbrev pub return_after : Result ℤ Cause → End
return_after (Ok v) = ends.Return (Some v)
return_after (Err why) = ends.Abandoned why
