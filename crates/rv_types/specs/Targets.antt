-- What is written by a statement, and what calls are given (ISO/IEC 8652:2012, 3.3, 5.2, 6.4.1, 9.5.1, 9.5.3, D.10).
use Rattle.std.specs.Prelude.{ℕ, Bool, true, false, is_some, not, List, [], ◌∷◌, ◌++◌, if◌then◌else◌, Option, Some, None}
use Rattle.rv_tree.specs.Names.{Name}
use Rattle.rv_tree.specs.Expressions.{Expression, name, Expressions, no_expressions, and_expression}
use Rattle.rv_shape.specs.declared.kind.Range.{Range}
use Rattle.rv_shape.specs.declared.kind.Parameter.{Parameter}
use Rattle.rv_shape.specs.declared.kind.ParameterMode.{ParameterMode}
use Rattle.rv_shape.specs.declared.kind.ParameterMode.TheVariants as mode
use Rattle.rv_static.specs.Meanings.{same_type}
use Rattle.rv_static.specs.Static.{◌>>=◌}
use Rattle.rv_code.specs.Expressions as code
use Rattle.rv_code.specs.Statements.{Statement, assign, calls}
use Rattle.rv_code.specs.declared.expression.Callee.{Callee}
use Rattle.rv_code.specs.declared.expression.Callee.TheVariants as callee
use Rattle.rv_code.specs.declared.statement.Place.{Place}
use Rattle.rv_code.specs.declared.statement.Place.TheVariants as place
use Rattle.rv_code.specs.declared.statement.Target.{Target}
use Rattle.rv_types.specs.declared.denoted.Denoted.{Denoted}
use Rattle.rv_types.specs.declared.denoted.Denoted.TheVariants as d
use Rattle.rv_types.specs.declared.denoted.SuspensionOperation.{SuspensionOperation}
use Rattle.rv_types.specs.declared.denoted.SuspensionOperation.TheVariants as suspension
use Rattle.rv_types.specs.Points.{PointView, denotes, profile}
use Rattle.rv_types.specs.Typed.{typed_as, argument_for, suspension_of}

-- where the object that a name denotes is kept
abbrev pub target_in : Denoted → Option Target
target_in (d.Variable slot r is_written) = Some (record { place = place.Variable slot; range = r })
target_in (d.Component index r) = Some (record { place = place.Component index; range = r })
target_in found = None

-- what may be written: no constant, `in` parameter or loop parameter (3.3), and in a function, which has a result, no
-- component (9.5.1)
abbrev pub may_write : Option Range → Denoted → Bool
may_write result (d.Variable slot r is_written) = is_written
may_write result (d.Component index r) = not (is_some result)
may_write result found = false

-- the object that an assignment names
unfoldable pub target_of : PointView → Name → Option Target
target_of p n = if may_write p.result (denotes p n) then target_in (denotes p n) else None

-- an assignment (5.2)
abbrev pub assigned : PointView → Expression → Target → Option Statement
assigned p e target = typed_as p target.range.of e >>= λ c. Some (assign target c)

abbrev pub assignment_code : PointView → Name → Expression → Option Statement
assignment_code p n e = target_of p n >>= assigned p e

-- Calls

-- what a call is given: the values of its `in` and `in out` parameters, and what takes those of the `out` and `in out` ones
pub record Passed : Type 0 where
  pub arguments : List code.Expression
  pub targets : List Target

abbrev pub nothing_passed : Passed
nothing_passed = record { arguments = []; targets = [] }

abbrev pub with_argument : code.Expression → Passed → Passed
with_argument c passed = record passed { arguments = passed.arguments ++ c ∷ [] }

abbrev pub with_target : Target → Passed → Passed
with_target target passed = record passed { targets = passed.targets ++ target ∷ [] }

-- the value of what is kept there
abbrev pub read_from : Place → code.Expression
read_from (place.Variable slot) = code.variable slot
read_from (place.Component index) = code.component index

-- an object of the parameter's type
abbrev pub fitting : Parameter → Target → Option Target
fitting q target = if same_type target.range.of q.range.of then Some target else None

-- the object that an argument names, and whether it may be written
abbrev pub object_named : PointView → Expression → Option Target
object_named p (name n) = target_in (denotes p n)
object_named p other = None

abbrev pub is_writable : PointView → Expression → Bool
is_writable p (name n) = may_write p.result (denotes p n)
is_writable p other = false

-- an object of the parameter's type that may be written
abbrev pub target_for : PointView → Parameter → Expression → Option Target
target_for p q e = object_named p e >>= fitting q >>= λ target. if is_writable p e then Some target else None

-- an argument for a parameter, by its mode (6.4.1)
abbrev pub passing : PointView → Parameter → Expression → ParameterMode → Passed → Option Passed
passing p q e mode.In passed = typed_as p q.range.of e >>= λ c. Some (with_argument (argument_for q c) passed)
passing p q e mode.Out passed = target_for p q e >>= λ target. Some (with_target target passed)
passing p q e mode.InOut passed =
    target_for p q e >>= λ target. Some (with_target target (with_argument (argument_for q (read_from target.place)) passed))

-- the arguments for these parameters, behind those before them
abbrev pub passed_onto : PointView → List Parameter → Expressions → Passed → Option Passed
passed_onto p [] no_expressions passed = Some passed
passed_onto p [] (and_expression e es) passed = None
passed_onto p (q ∷ qs) no_expressions passed = None
passed_onto p (q ∷ qs) (and_expression e es) passed = passing p q e q.mode passed >>= passed_onto p qs es

abbrev pub setter : SuspensionOperation → ℕ → Callee
setter suspension.SetTrue object = callee.SetTrue object
setter suspension.SetFalse object = callee.SetFalse object
setter suspension.SuspendUntilTrue object = callee.SuspendUntilTrue object

-- a function, which has a result, calls no internal procedure (9.5.1)
abbrev pub may_call : Option Range → Callee → Bool
may_call None callee = true
may_call (Some r) (callee.Internal operation) = false
may_call (Some r) other = true

-- a call with what it is given, or of an operation of this suspension object
abbrev pub call_by : Option Range → Denoted → Option Passed → Option ℕ → Option Statement
call_by result (d.Procedure callee) passed object =
    if may_call result callee then (passed >>= λ given. Some (calls callee (code.expressions_of given.arguments) given.targets)) else None
call_by result (d.Setter operation) passed object = object >>= λ k. Some (calls (setter operation k) code.no_expressions [])
call_by result found passed object = None

-- a call as a statement (6.4, 9.5.3, D.10)
unfoldable pub called : PointView → Name → Expressions → Option Statement
called p n es = call_by p.result (denotes p n) (passed_onto p (profile p n) es nothing_passed) (suspension_of p es)
