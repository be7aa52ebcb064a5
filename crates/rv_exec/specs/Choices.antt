-- Which alternative, and which handler, is chosen (ISO/IEC 8652:2012, 5.4, 11.2).
use Rattle.std.specs.Prelude.{ℤ, Bool, true, false, ◌&&◌, int_le, if◌then◌else◌, List, [], ◌∷◌, Option, Some, None}
use Rattle.rv_event.specs.declared.entry.Exception.{Exception}
use Rattle.rv_event.specs.declared.entry.Exception.TheVariants.{ConstraintError, ProgramError, AccessDenied}
use Rattle.rv_code.specs.declared.body.ExceptionChoice.{ExceptionChoice}
use Rattle.rv_code.specs.declared.body.ExceptionChoice.TheVariants as exception_choice
use Rattle.rv_code.specs.declared.statement.Choice.{Choice}
use Rattle.rv_code.specs.declared.statement.Choice.TheVariants as choice
use Rattle.rv_code.specs.Bodies.{Handler}
use Rattle.rv_code.specs.Statements.{Statements, Alternatives, no_alternatives, and_alternative}

abbrev pub covers : Choice → ℤ → Bool
covers (choice.Values low high) value = int_le low value && int_le value high
covers choice.Others value = true

-- whether one of the choices covers the value (3.8.1)
abbrev pub covered : List Choice → ℤ → Bool
covered [] value = false
covered (c ∷ more) value = if covers c value then true else covered more value

-- the statements of the first alternative that covers the value
abbrev pub alternative_of : Alternatives → ℤ → Option Statements
alternative_of no_alternatives value = None
alternative_of (and_alternative choices ss more) value = if covered choices value then Some ss else alternative_of more value

abbrev pub is_same : Exception → Exception → Bool
is_same ConstraintError ConstraintError = true
is_same ProgramError ProgramError = true
is_same AccessDenied AccessDenied = true
is_same one other = false

abbrev pub names : ExceptionChoice → Exception → Bool
names (exception_choice.Named one) exception = is_same one exception
names exception_choice.Others exception = true

-- whether one of the choices names the exception
abbrev pub named : List ExceptionChoice → Exception → Bool
named [] exception = false
named (c ∷ more) exception = if names c exception then true else named more exception

-- the statements of the first handler that names the exception, or `others`
abbrev pub handler_of : List Handler → Exception → Option Statements
handler_of [] exception = None
handler_of (h ∷ hs) exception = if named h.choices exception then Some h.statements else handler_of hs exception
