-- What a run of statements changes: the activation of a body (own).
use Rattle.std.specs.Prelude.{ℕ, zero, suc, ◌+◌, ◌*◌, ℤ, pos, Bool, true, false, ◌&&◌, int_le, nat_lt, if◌then◌else◌, List, [], ◌∷◌, ◌++◌, length, Option, Some, None, Result, Ok, Err, slice_index_or, slice_set, unsigned_abs, ◌+ℤ◌, ◌-ℤ◌}
use Rattle.rv_value.specs.Arithmetic.{is_integer}
use Rattle.rv_shape.specs.declared.kind.Parameter.{Parameter}
use Rattle.rv_shape.specs.declared.kind.ParameterMode.{ParameterMode}
use Rattle.rv_shape.specs.Kinds.{goes_in, goes_out}
use Rattle.rv_shape.specs.declared.kind.Range.{Range}
use Rattle.rv_shape.specs.declared.kind.ValueType.{ValueType}
use Rattle.rv_shape.specs.declared.kind.ValueType.TheVariants as type
use Rattle.rv_code.specs.declared.statement.Place.{Place}
use Rattle.rv_code.specs.declared.statement.Place.TheVariants as place
use Rattle.rv_code.specs.declared.statement.Target.{Target}
use Rattle.rv_exec.specs.declared.activation.Activation.{Activation}
use Rattle.rv_exec.specs.declared.end.Cause.{Cause}
use Rattle.rv_exec.specs.declared.end.End.{End}
use Rattle.rv_exec.specs.declared.end.End.TheVariants as end
use Rattle.rv_exec.specs.Operators.{within}

-- the values of a call, of which there are at most four
abbrev pub joined : List ℤ → ℤ → List ℤ
joined values v = if nat_lt (length values) 4 then values ++ v ∷ [] else values

abbrev pub put_at : Place → ℤ → Activation → Activation
put_at (place.Variable slot) v a = record a { slots = slice_set a.slots slot v }
put_at (place.Component index) v a = record a { components = slice_set a.components index v }

abbrev pub settled : Target → Activation → Result ℤ Cause → End × Activation
settled target a (Ok v) = (end.Next, put_at target.place v a)
settled target a (Err why) = (end.Abandoned why, a)

-- the target takes a value of its range; for another Constraint_Error is raised (5.2)
abbrev pub assigned : Target → ℤ → Activation → End × Activation
assigned target v a = settled target a (within target.range v)

-- the loop parameter takes a value (5.5)
abbrev pub put_slot : ℕ → ℤ → Activation → Activation
put_slot slot v a = put_at (place.Variable slot) v a

abbrev pub one_less : ℕ → Activation → Option Activation
one_less zero a = None
one_less (suc n) a = Some (record a { steps = n })

-- one statement step, where one is left
abbrev pub stepped : Activation → Option Activation
stepped a = one_less a.steps a

abbrev pub request_less : ℕ → Activation → Option Activation
request_less zero a = None
request_less (suc n) a = Some (record a { requests = n })

-- a request of a task's own body takes one of its budget, where one is left
abbrev pub spent : Bool → Activation → Option Activation
spent true a = request_less a.requests a
spent false a = Some a

-- behind a request a task's own body has its steps anew
abbrev pub refilled : Bool → Activation → Activation
refilled true a = record a { steps = 100000 }
refilled false a = a

-- more steps than a body can still take: of these requests, and between them
abbrev pub steps_left : Activation → ℕ
steps_left a = a.requests * 100001 + a.steps

-- values that come back from a call go to the targets in their order; those before one that raises stay (6.4.1)
abbrev pub copied_next : (Activation → End × Activation) → End × Activation → End × Activation
copied_next more (end.Next, a) = more a
copied_next more (end.Exit, a) = (end.Exit, a)
copied_next more (end.Return v, a) = (end.Return v, a)
copied_next more (end.Abandoned why, a) = (end.Abandoned why, a)

abbrev pub copied_back : List Target → ℕ → List ℤ → Activation → End × Activation
copied_back [] index values a = (end.Next, a)
copied_back (target ∷ more) index values a =
    copied_next (copied_back more (suc index) values) (assigned target (slice_index_or values index (pos 0)) a)

-- what an `out` parameter starts at: the first value of its range, a Time or a Time_Span at 0
abbrev pub first_value : ValueType → ℤ → ℤ
first_value type.Integer low = low
first_value type.Boolean low = low
first_value type.Time low = pos 0
first_value type.TimeSpan low = pos 0

-- what a parameter starts at: the next of the given values, or for `out` its first value (6.2)
abbrev pub start_of : Parameter → List ℤ → (given : ℕ) → ℤ
start_of p values given = if goes_in p.mode then slice_index_or values given (pos 0) else first_value p.range.of p.range.low

abbrev pub next_given : ParameterMode → ℕ → ℕ
next_given mode given = if goes_in mode then suc given else given

-- the parameters from a slot on take the given values from an index on, by copy (6.4.1)
abbrev pub bound : List Parameter → (slot given : ℕ) → List ℤ → List ℤ → List ℤ
bound [] slot given values slots = slots
bound (p ∷ ps) slot given values slots = bound ps (suc slot) (next_given p.mode given) values (slice_set slots slot (start_of p values given))

-- the values of the `out` and `in out` parameters, from a slot on (6.4.1)
abbrev pub given_back : List Parameter → ℕ → List ℤ → List ℤ → List ℤ
given_back [] slot slots values = values
given_back (p ∷ ps) slot slots values =
    given_back ps (suc slot) slots (if goes_out p.mode then joined values (slice_index_or slots slot (pos 0)) else values)

-- a body's activation as its declarations begin
abbrev pub opened : List ℤ → List ℤ → ℕ → ℕ → Activation
opened slots components steps requests = record { slots = slots; components = components; steps = steps; requests = requests }

abbrev pub is_within : Range → ℤ → ℤ → Bool
is_within range low high = int_le range.low low && int_le high range.high

-- whether the bounds of a loop's range lie in its subtype, where there is a value between them (3.2.2, 3.5)
abbrev pub fits : Range → ℤ → ℤ → Bool
fits range low high = is_within range low high && is_integer low && is_integer high

-- how many values there are from one bound to the other
abbrev pub span : ℤ → ℤ → ℕ
span low high = unsigned_abs (high -ℤ low) + 1

-- the value of a loop's range that so many others follow (5.5)
abbrev pub value_before : Bool → ℤ → ℤ → ℕ → ℤ
value_before true low high others = low +ℤ pos others
value_before false low high others = high -ℤ pos others
