-- The code of blocks (ISO/IEC 8652:2012, 3.2.2, 3.3.1, 6.3, 11.2).
use Rattle.std.specs.Prelude.{ℕ, ℤ, Bool, true, false, if◌then◌else◌, List, [], ◌∷◌, ◌++◌, Option, Some, None}
use Rattle.rv_tree.specs.Names.{Identifier, Name}
use Rattle.rv_tree.specs.Expressions.{Expression, RangeConstraint}
use Rattle.rv_tree.specs.Bodies.{Local, an_object, local_pragma, local_protected_unit, local_task, ExceptionChoice, exception_named, other_exceptions, Block}
use Rattle.rv_tree.specs.Bodies as tree
use Rattle.rv_shape.specs.declared.kind.Range.{Range}
use Rattle.rv_shape.specs.declared.kind.Parameter.{Parameter}
use Rattle.rv_scope.specs.Scope.{declaring_all, hiding_all}
use Rattle.rv_scope.specs.UnitUses.{local_form}
use Rattle.rv_static.specs.Static.{◌>>=◌}
use Rattle.rv_static.specs.Ranges.{value_in, default_start}
use Rattle.rv_scope.specs.declared.known.Known.TheVariants as k
use Rattle.rv_scope.specs.Subtypes.{subtype_of}
use Rattle.rv_code.specs.Expressions as code
use Rattle.rv_code.specs.Statements.{statements_of}
use Rattle.rv_code.specs.Statements as codes
use Rattle.rv_code.specs.Bodies.{Declaration, Handler, Body}
use Rattle.rv_code.specs.declared.body.ExceptionChoice as choices
use Rattle.rv_code.specs.declared.body.ExceptionChoice.TheVariants as choice
use Rattle.rv_code.specs.declared.statement.Place.TheVariants.{Variable}
use Rattle.rv_types.specs.declared.denoted.Denoted.{Denoted}
use Rattle.rv_types.specs.declared.denoted.Denoted.TheVariants as d
use Rattle.rv_types.specs.Points.{PointView, static_meaning, denotes, noting, taking_object, has_object_slot, behind_parameters}
use Rattle.rv_types.specs.StaticForm.{is_static}
use Rattle.rv_types.specs.Typed.{typed_as}
use Rattle.rv_types.specs.StatementCode.{statements_onto}

-- Declarations (3.3.1)

-- identifiers inside their own declaration, and behind it (8.3)
abbrev pub hidden : List Identifier → PointView → PointView
hidden names p = record p { scope = hiding_all names p.scope }

abbrev pub revealed : Bool → List Identifier → PointView → PointView
revealed is_constant names p = record p { scope = declaring_all (local_form is_constant) names p.scope }

-- the declarations of a block so far, and the point behind them
pub record Opened : Type 0 where
  pub point : PointView
  pub declarations : List Declaration

abbrev pub opened_with : PointView → List Declaration → Opened
opened_with p declarations = record { point = p; declarations = declarations }

-- what a variable starts at: without an initial value at the first value of its range, a Time or a Time_Span at 0 (own)
abbrev pub initial_of : PointView → Range → Option Expression → Option code.Expression
initial_of p r None = Some (code.literal (default_start r))
initial_of p r (Some e) = typed_as p r.of e

-- the values that it may start at: those of its range; without an initial value there is no check (3.3.1, 4.6), and where it
-- starts is one, also of a null range
abbrev pub starts_in : Range → Option Expression → Range
starts_in r None = record { of = r.of; low = default_start r; high = default_start r }
starts_in r (Some e) = r

-- a variable, or a constant whose value isn't static, takes the next slot
abbrev pub declaration_of : ℕ → Range → code.Expression → Declaration
declaration_of slot r c = record { target = record { place = Variable slot; range = r }; initial = c }

abbrev pub with_object : Identifier → Range → Range → Bool → Opened → code.Expression → Opened
with_object i r starts is_written o c = record {
  point = taking_object i.at r is_written o.point;
  declarations = o.declarations ++ declaration_of o.point.slots starts c ∷ [];
}

-- the next object, for which a slot is left
abbrev pub object_with : Identifier → Range → Range → Bool → Opened → code.Expression → Option Opened
object_with i r starts is_written o c = if has_object_slot is_written o.point then Some (with_object i r starts is_written o c) else None

abbrev pub objects_onto : Range → Bool → Option Expression → List Identifier → Opened → Option Opened
objects_onto r is_written initial [] o = Some o
objects_onto r is_written initial (i ∷ more) o =
    initial_of o.point r initial >>= object_with i r (starts_in r initial) is_written o >>= objects_onto r is_written initial more

-- constants with a static value are known by it
abbrev pub noting_all : Range → ℤ → List Identifier → PointView → PointView
noting_all r z [] p = p
noting_all r z (i ∷ more) p = noting_all r z more (noting i.at (k.Constant r z) p)

abbrev pub with_constants : Range → List Identifier → Opened → ℤ → Option Opened
with_constants r names o z = Some (record o { point = noting_all r z names o.point })

abbrev pub constants_onto : Range → Expression → List Identifier → Opened → Option Opened
constants_onto r e names o =
    if is_static (static_meaning o.point) true e then (value_in (static_meaning o.point) r e >>= with_constants r names o)
    else objects_onto r false (Some e) names o

-- the objects of a declaration; a constant has a value
abbrev pub declared_onto : Bool → Range → Option Expression → List Identifier → Opened → Option Opened
declared_onto false r initial names o = objects_onto r true initial names o
declared_onto true r None names o = None
declared_onto true r (Some e) names o = constants_onto r e names o

abbrev pub revealing : Bool → List Identifier → Opened → Option Opened
revealing is_constant names o = Some (record o { point = revealed is_constant names o.point })

abbrev pub hiding_names : List Identifier → Opened → Opened
hiding_names names o = record o { point = hidden names o.point }

abbrev pub object_onto : List Identifier → Bool → Name → Option RangeConstraint → Option Expression → Opened → Option Opened
object_onto names is_constant mark range initial o =
    subtype_of (static_meaning o.point) mark range >>= λ r. declared_onto is_constant r initial names o >>= revealing is_constant names

-- a declaration of a block; it declares no protected unit and no task
abbrev pub local_onto : Local → Opened → Option Opened
local_onto (an_object names is_constant mark range initial) o = object_onto names is_constant mark range initial (hiding_names names o)
local_onto (local_pragma pragma) o = Some o
local_onto (local_protected_unit unit) o = None
local_onto (local_task task) o = None

abbrev pub locals_onto : List Local → Opened → Option Opened
locals_onto [] o = Some o
locals_onto (one ∷ more) o = local_onto one o >>= locals_onto more

-- Handlers (11.2)

abbrev pub named_exception : Denoted → Option choices.ExceptionChoice
named_exception (d.Exception exception) = Some (choice.Named exception)
named_exception found = None

abbrev pub exception_of : PointView → ExceptionChoice → Option choices.ExceptionChoice
exception_of p (exception_named n) = named_exception (denotes p n)
exception_of p (other_exceptions at) = Some choice.Others

abbrev pub exceptions_onto : PointView → List ExceptionChoice → List choices.ExceptionChoice → Option (List choices.ExceptionChoice)
exceptions_onto p [] done = Some done
exceptions_onto p (one ∷ more) done = exception_of p one >>= λ c. exceptions_onto p more (done ++ c ∷ [])

abbrev pub handler_with : List choices.ExceptionChoice → List codes.Statement → Handler
handler_with cs ss = record { choices = cs; statements = statements_of ss }

abbrev pub handlers_onto : PointView → List tree.Handler → List Handler → Option (List Handler)
handlers_onto p [] done = Some done
handlers_onto p (one ∷ more) done =
    exceptions_onto p one.choices [] >>= λ cs. statements_onto p one.statements [] >>= λ ss.
    handlers_onto p more (done ++ handler_with cs ss ∷ [])

-- Blocks

abbrev pub body_with : List Parameter → Bool → List Declaration → List codes.Statement → List Handler → Body
body_with parameters is_function declarations ss handlers = record {
  parameters = parameters;
  is_function = is_function;
  declarations = declarations;
  statements = statements_of ss;
  handlers = handlers;
}

-- a block as the body of an operation or a task with these parameters
abbrev pub block_of : List Parameter → Bool → PointView → Block → Option Body
block_of parameters is_function p block =
    locals_onto block.locals (opened_with (behind_parameters p) []) >>= λ o. statements_onto o.point block.statements [] >>= λ ss.
    handlers_onto o.point block.handlers [] >>= λ handlers. Some (body_with parameters is_function o.declarations ss handlers)
