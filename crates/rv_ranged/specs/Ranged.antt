-- Whether the values that bodies ask with, keep and give back lie in their ranges, as the form of the code shows it (ISO/IEC
-- 8652:2012, 3.2.2, 6.4.1, 6.5).
use Rattle.std.specs.Prelude.{ℤ, pos, Bool, true, false, ◌&&◌, ◌||◌, not, nat_le, int_le, if◌then◌else◌, List, [], ◌∷◌, length, map, Option, Some, None, slice_get}
use Rattle.std.specs.List.{filter, list_all}
use Rattle.rv_shape.specs.declared.kind.Component.{Component}
use Rattle.rv_shape.specs.declared.kind.Kind.{Kind}
use Rattle.rv_shape.specs.declared.kind.Kind.TheVariants.{Function}
use Rattle.rv_shape.specs.declared.kind.Parameter.{Parameter}
use Rattle.rv_shape.specs.declared.kind.ParameterMode.{ParameterMode}
use Rattle.rv_shape.specs.declared.kind.ParameterMode.TheVariants.{In, Out, InOut}
use Rattle.rv_shape.specs.declared.kind.Range.{Range}
use Rattle.rv_shape.specs.declared.kind.ValueType.{ValueType}
use Rattle.rv_shape.specs.declared.kind.ValueType.TheVariants.{Integer, Boolean, Time, TimeSpan}
use Rattle.rv_shape.specs.declared.object.Object.{Object}
use Rattle.rv_shape.specs.declared.object.Object.TheVariants.{Protected, Suspension}
use Rattle.rv_shape.specs.Catalogue.{Target, OnProtected, numbered, target, all_objects}
use Rattle.rv_shape.specs.Fits.{lowest, highest}
use Rattle.rv_shape.specs.Kinds.{holds, goes_in, is_function}
use Rattle.rv_shape.specs.Objects.{OperationShape, ProtectedShape}
use Rattle.rv_shape.specs.Shape.{Shape}
use Rattle.rv_code.specs.declared.expression.Callee.{Callee}
use Rattle.rv_code.specs.declared.expression.Callee.TheVariants as callee
use Rattle.rv_code.specs.declared.statement.Place.{Place}
use Rattle.rv_code.specs.declared.statement.Place.TheVariants as place
use Rattle.rv_code.specs.declared.statement.Target.{Target as Kept}
use Rattle.rv_code.specs.Expressions.{Expression, literal, variable, component, prefixed, chain, within, call, Expressions, no_expressions, and_expression, Links, no_links, and_link}
use Rattle.rv_code.specs.Statements.{Statement, null_statement, assign, choice, selection, while_loop, for_loop, exit_when, returns, returns_value, raises, reraises, calls, Statements, no_statements, and_statement, Branches, no_branches, and_branch, Alternatives, no_alternatives, and_alternative}
use Rattle.rv_code.specs.Bodies.{Declaration, Handler, Body, UnitBodies}

-- Values

-- the bounds of the second range lie in the first (3.5)
abbrev pub covers : Range → Range → Bool
covers range inner = int_le range.low inner.low && int_le inner.high range.high

-- an expression gives values of a range alone: it is a literal there, or its value must lie in a range there
abbrev pub gives : Range → Expression → Bool
gives range (literal n) = holds range n
gives range (within inner e) = covers range inner
gives range other = false

-- expressions give one value of each range
abbrev pub all_give : List Range → Expressions → Bool
all_give [] no_expressions = true
all_give [] (and_expression e es) = false
all_give (range ∷ ranges) no_expressions = false
all_give (range ∷ ranges) (and_expression e es) = gives range e && all_give ranges es

-- Calls

-- the ranges of what a call gives to these parameters (6.2)
abbrev pub given_ranges : List Parameter → List Range
given_ranges parameters = map (λ p. p.range) (filter (λ p. goes_in p.mode) parameters)

-- the time of a `delay until`, which is any Time (9.6)
abbrev pub time_parameter : Parameter
time_parameter = record { mode = In; range = record { of = Time; low = lowest Time; high = highest Time } }

abbrev pub of_operation : Option OperationShape → Option (List Parameter)
of_operation None = None
of_operation (Some operation) = Some operation.parameters

abbrev pub of_target : Target → Option (List Parameter)
of_target (OnProtected site) = Some site.operation.parameters
of_target other = None

-- arguments give such parameters values of their ranges; there are at most four (own)
abbrev pub take : Option (List Parameter) → Expressions → Bool
take None es = false
take (Some parameters) es = nat_le (length parameters) 4 && all_give (given_ranges parameters) es

-- arguments suit what is called, where these are the operations of the same object, if it has any; those of a suspension object and
-- Clock take no values
abbrev pub suit : List Shape → List OperationShape → Callee → Expressions → Bool
suit shapes own (callee.Internal operation) es = take (of_operation (numbered own operation)) es
suit shapes own (callee.OwnEntry operation) es = take (of_operation (numbered own operation)) es
suit shapes own (callee.Function object operation) es = take (of_target (target shapes object operation)) es
suit shapes own (callee.Procedure object operation) es = take (of_target (target shapes object operation)) es
suit shapes own (callee.Entry object operation) es = take (of_target (target shapes object operation)) es
suit shapes own callee.DelayUntil es = take (Some (time_parameter ∷ [])) es
suit shapes own other es = true

-- Where code stands

-- the operations and the components of its object, none for a task, its own parameters, and the range of its result
pub record Stand : Type 0 where
  pub operations : List OperationShape
  pub components : List Component
  pub parameters : List Parameter
  pub result : Option Range

-- Expressions

abbrev mutual
  -- each call in an expression is given values of the ranges that it wants
  pub expression_ranged : List Shape → Stand → Expression → Bool
  expression_ranged shapes s (literal n) = true
  expression_ranged shapes s (variable slot) = true
  expression_ranged shapes s (component index) = true
  expression_ranged shapes s (prefixed op e) = expression_ranged shapes s e
  expression_ranged shapes s (chain e ls) = expression_ranged shapes s e && links_ranged shapes s ls
  expression_ranged shapes s (within range e) = expression_ranged shapes s e
  expression_ranged shapes s (call c es) = suit shapes s.operations c es && expressions_ranged shapes s es

  pub expressions_ranged : List Shape → Stand → Expressions → Bool
  expressions_ranged shapes s no_expressions = true
  expressions_ranged shapes s (and_expression e es) = expression_ranged shapes s e && expressions_ranged shapes s es

  pub links_ranged : List Shape → Stand → Links → Bool
  links_ranged shapes s no_links = true
  links_ranged shapes s (and_link op e ls) = expression_ranged shapes s e && links_ranged shapes s ls

-- Targets

abbrev pub parameter_keeps : Range → Option Parameter → Bool
parameter_keeps range None = true
parameter_keeps range (Some p) = covers p.range range

abbrev pub component_keeps : Range → Option Component → Bool
component_keeps range None = true
component_keeps range (Some c) = covers c.range range

-- what takes values of a range is no parameter or component, or one whose own range has them
abbrev pub place_keeps : Stand → Range → Place → Bool
place_keeps s range (place.Variable slot) = parameter_keeps range (slice_get s.parameters slot)
place_keeps s range (place.Component index) = component_keeps range (slice_get s.components index)

abbrev pub target_keeps : Stand → Kept → Bool
target_keeps s kept = place_keeps s kept.range kept.place

-- a function's value lies in the range of its result (6.5)
abbrev pub result_given : Option Range → Expression → Bool
result_given None e = true
result_given (Some range) e = gives range e

-- Statements

abbrev mutual
  -- so does a statement, whose targets keep to their ranges, and which returns values of the result's range alone
  pub statement_ranged : List Shape → Stand → Statement → Bool
  statement_ranged shapes s null_statement = true
  statement_ranged shapes s (assign kept e) = target_keeps s kept && expression_ranged shapes s e
  statement_ranged shapes s (choice bs otherwise) = branches_ranged shapes s bs && statements_ranged shapes s otherwise
  statement_ranged shapes s (selection e more) = expression_ranged shapes s e && alternatives_ranged shapes s more
  statement_ranged shapes s (while_loop e ss) = expression_ranged shapes s e && statements_ranged shapes s ss
  statement_ranged shapes s (for_loop slot is_reverse range low high ss) =
      nat_le (length s.parameters) slot && (expression_ranged shapes s low && (expression_ranged shapes s high && statements_ranged shapes s ss))
  statement_ranged shapes s (exit_when e) = expression_ranged shapes s e
  statement_ranged shapes s returns = true
  statement_ranged shapes s (returns_value e) = result_given s.result e && expression_ranged shapes s e
  statement_ranged shapes s (raises exception) = true
  statement_ranged shapes s reraises = true
  statement_ranged shapes s (calls c es kept) =
      suit shapes s.operations c es && (expressions_ranged shapes s es && list_all (target_keeps s) kept)

  pub statements_ranged : List Shape → Stand → Statements → Bool
  statements_ranged shapes s no_statements = true
  statements_ranged shapes s (and_statement one more) = statement_ranged shapes s one && statements_ranged shapes s more

  pub branches_ranged : List Shape → Stand → Branches → Bool
  branches_ranged shapes s no_branches = true
  branches_ranged shapes s (and_branch e ss bs) = (expression_ranged shapes s e && statements_ranged shapes s ss) && branches_ranged shapes s bs

  pub alternatives_ranged : List Shape → Stand → Alternatives → Bool
  alternatives_ranged shapes s no_alternatives = true
  alternatives_ranged shapes s (and_alternative choices ss more) = statements_ranged shapes s ss && alternatives_ranged shapes s more

-- Bodies

abbrev pub declaration_ranged : List Shape → Stand → Declaration → Bool
declaration_ranged shapes s d = target_keeps s d.target && expression_ranged shapes s d.initial

abbrev pub handler_ranged : List Shape → Stand → Handler → Bool
handler_ranged shapes s h = statements_ranged shapes s h.statements

abbrev pub body_ranged : List Shape → Stand → Body → Bool
body_ranged shapes s b =
    list_all (declaration_ranged shapes s) b.declarations
    && (statements_ranged shapes s b.statements && list_all (handler_ranged shapes s) b.handlers)

-- what an `out` parameter starts at: the first value of its range, a Time or a Time_Span at 0 (own)
abbrev pub first_of : ValueType → ℤ → ℤ
first_of Integer low = low
first_of Boolean low = low
first_of Time low = pos 0
first_of TimeSpan low = pos 0

abbrev pub same_mode : ParameterMode → ParameterMode → Bool
same_mode In In = true
same_mode Out Out = true
same_mode InOut InOut = true
same_mode one other = false

-- a body's parameter is the operation's: it has its mode, and starts in its range where no value is given
abbrev pub parameter_fits : Parameter → Parameter → Bool
parameter_fits own p = same_mode own.mode p.mode && (goes_in own.mode || holds p.range (first_of own.range.of own.range.low))

abbrev pub parameters_fit : List Parameter → List Parameter → Bool
parameters_fit [] [] = true
parameters_fit [] (p ∷ ps) = false
parameters_fit (own ∷ owns) [] = false
parameters_fit (own ∷ owns) (p ∷ ps) = parameter_fits own p && parameters_fit owns ps

-- it is a function's body where the operation is one (9.5.1)
abbrev pub kind_fits : Bool → Kind → Bool
kind_fits is_a kind = if is_a then is_function kind else not (is_function kind)

abbrev pub result_of : Kind → Option Range
result_of (Function range) = Some range
result_of other = None

abbrev pub stand_of : ProtectedShape → OperationShape → Stand
stand_of object operation = record {
  operations = object.operations;
  components = object.components;
  parameters = operation.parameters;
  result = result_of operation.kind;
}

-- a body is one of this operation, of at most four parameters
abbrev pub heads : OperationShape → Body → Bool
heads operation b =
    kind_fits b.is_function operation.kind
    && (nat_le (length operation.parameters) 4 && parameters_fit b.parameters operation.parameters)

abbrev pub operation_ranged : List Shape → ProtectedShape → OperationShape → Body → Bool
operation_ranged shapes object operation b = heads operation b && body_ranged shapes (stand_of object operation) b

-- bodies are those of these operations, in their order
abbrev pub operations_ranged : List Shape → ProtectedShape → List OperationShape → List Body → Bool
operations_ranged shapes object operations [] = true
operations_ranged shapes object [] (b ∷ bs) = false
operations_ranged shapes object (operation ∷ operations) (b ∷ bs) =
    operation_ranged shapes object operation b && operations_ranged shapes object operations bs

-- a suspension object has none (D.10)
abbrev pub object_ranged : List Shape → Object → List Body → Bool
object_ranged shapes (Protected object) bodies = operations_ranged shapes object object.operations bodies
object_ranged shapes (Suspension object) bodies = true

abbrev pub objects_ranged : List Shape → List Object → List (List Body) → Bool
objects_ranged shapes objects [] = true
objects_ranged shapes [] (bodies ∷ more) = true
objects_ranged shapes (object ∷ objects) (bodies ∷ more) = object_ranged shapes object bodies && objects_ranged shapes objects more

abbrev pub task_stand : Stand
task_stand = record { operations = []; components = []; parameters = []; result = None }

abbrev pub task_ranged : List Shape → Option Body → Bool
task_ranged shapes None = true
task_ranged shapes (Some b) = body_ranged shapes task_stand b

-- the bodies of these objects, and of tasks, ask with, keep and give back values of their ranges alone, over this catalogue
abbrev pub ranges_fit : List Shape → List Object → UnitBodies → Bool
ranges_fit shapes objects bodies = objects_ranged shapes objects bodies.objects && list_all (task_ranged shapes) bodies.tasks

-- the same of the bodies of a whole catalogue
abbrev pub catalogue_ranged : List Shape → UnitBodies → Bool
catalogue_ranged shapes bodies = ranges_fit shapes (map (λ at. at.object) (all_objects shapes)) bodies
