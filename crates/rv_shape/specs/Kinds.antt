-- Kinds of operations, modes of parameters and ranges.
use Rattle.std.specs.Prelude.{ℕ, ℤ, Bool, true, false, ◌==◌, ◌&&◌, int_le, Option, Some, None}
use Rattle.rv_shape.specs.declared.kind.Range.{Range}
use Rattle.rv_shape.specs.declared.kind.ParameterMode.{ParameterMode}
use Rattle.rv_shape.specs.declared.kind.ParameterMode.TheVariants.{In, Out, InOut}
use Rattle.rv_shape.specs.declared.kind.Barrier.{Barrier}
use Rattle.rv_shape.specs.declared.kind.Kind.{Kind}
use Rattle.rv_shape.specs.declared.kind.Kind.TheVariants.{Function, Entry, Handler}

-- whether a value lies in a range (3.5)
abbrev pub holds : Range → ℤ → Bool
holds range value = int_le range.low value && int_le value range.high

-- whether a call gives a value to a parameter of this mode (6.2)
abbrev pub goes_in : ParameterMode → Bool
goes_in In = true
goes_in Out = false
goes_in InOut = true

-- whether a return gives one back (6.2)
abbrev pub goes_out : ParameterMode → Bool
goes_out In = false
goes_out Out = true
goes_out InOut = true

-- whether it is a function (9.5.1)
abbrev pub is_function : Kind → Bool
is_function (Function result) = true
is_function kind = false

-- whether it is an entry (9.5.2)
abbrev pub is_entry : Kind → Bool
is_entry (Entry guard) = true
is_entry kind = false

-- whether it is a handler (C.3.1)
abbrev pub is_handler : Kind → Bool
is_handler (Handler line) = true
is_handler kind = false

-- whether it is the handler of this line (C.3.1)
abbrev pub handles : ℕ → Kind → Bool
handles line (Handler on) = on == line
handles line kind = false

-- the barrier of an operation, if it is an entry (9.5.2)
abbrev pub barrier_of : Kind → Option Barrier
barrier_of (Entry guard) = Some guard
barrier_of kind = None
