-- Which operations a task calls in its own body (9.1, 9.5): what its text writes. What the bodies of those operations call isn't
-- among them. (own)
use Rattle.std.specs.Prelude.{◌≡◌, ℕ, ◌+◌, Bool, ◌==◌, ◌&&◌, List, [], ◌∷◌, ◌++◌, length, Option, Some, None}
use Rattle.std.specs.List.{list_any}
use Rattle.std.specs.Option.{option_to_list}
use Rattle.rv_code.specs.declared.expression.Callee.{Callee}
use Rattle.rv_code.specs.declared.expression.Callee.TheVariants as callee
use Rattle.rv_code.specs.Expressions.{Expression, literal, variable, component, prefixed, chain, within, call, Expressions, no_expressions, and_expression, Links, no_links, and_link}
use Rattle.rv_code.specs.Statements.{Statement, null_statement, assign, choice, selection, while_loop, for_loop, exit_when, returns, returns_value, raises, reraises, calls, Statements, no_statements, and_statement, Branches, no_branches, and_branch, Alternatives, no_alternatives, and_alternative}
use Rattle.rv_code.specs.Bodies.{Declaration, Handler, Body, UnitBodies}
use Rattle.rv_shape.specs.Catalogue.{all_tasks, first_task}
use Rattle.rv_shape.specs.Shape.{Shape}
use Rattle.rv_never.specs.declared.calls.Called.{Called}
use Rattle.rv_never.specs.declared.calls.TaskCalls.{TaskCalls}
use Rattle.rv_never.specs.declared.calls.UnitCalls.{UnitCalls}

-- the operation that a callee is; an operation of the same object, a delay and Clock are none that is asked of the list
abbrev pub operation_of : Callee → Option Called
operation_of (callee.Internal operation) = None
operation_of (callee.OwnEntry operation) = None
operation_of (callee.Function object operation) = Some (record { object = object; operation = operation })
operation_of (callee.Procedure object operation) = Some (record { object = object; operation = operation })
operation_of (callee.Entry object operation) = Some (record { object = object; operation = operation })
operation_of (callee.SetTrue object) = Some (record { object = object; operation = 1 })
operation_of (callee.SetFalse object) = Some (record { object = object; operation = 2 })
operation_of (callee.CurrentState object) = Some (record { object = object; operation = 3 })
operation_of (callee.SuspendUntilTrue object) = Some (record { object = object; operation = 4 })
operation_of callee.DelayUntil = None
operation_of callee.Clock = None

abbrev pub of_callee : Callee → List Called
of_callee callee = option_to_list (operation_of callee)

abbrev mutual
  -- the operations that an expression calls, in the order of the text
  pub of_expression : Expression → List Called
  of_expression (literal n) = []
  of_expression (variable slot) = []
  of_expression (component index) = []
  of_expression (prefixed op e) = of_expression e
  of_expression (chain e ls) = of_expression e ++ of_links ls
  of_expression (within range e) = of_expression e
  of_expression (call callee es) = of_callee callee ++ of_expressions es

  pub of_expressions : Expressions → List Called
  of_expressions no_expressions = []
  of_expressions (and_expression e es) = of_expression e ++ of_expressions es

  pub of_links : Links → List Called
  of_links no_links = []
  of_links (and_link op e ls) = of_expression e ++ of_links ls

abbrev mutual
  -- the same of a statement
  pub of_statement : Statement → List Called
  of_statement null_statement = []
  of_statement (assign target e) = of_expression e
  of_statement (choice bs otherwise) = of_branches bs ++ of_statements otherwise
  of_statement (selection e more) = of_expression e ++ of_alternatives more
  of_statement (while_loop e ss) = of_expression e ++ of_statements ss
  of_statement (for_loop parameter is_reverse range low high ss) = (of_expression low ++ of_expression high) ++ of_statements ss
  of_statement (exit_when e) = of_expression e
  of_statement returns = []
  of_statement (returns_value e) = of_expression e
  of_statement (raises exception) = []
  of_statement reraises = []
  of_statement (calls callee es targets) = of_callee callee ++ of_expressions es

  pub of_statements : Statements → List Called
  of_statements no_statements = []
  of_statements (and_statement s ss) = of_statement s ++ of_statements ss

  pub of_branches : Branches → List Called
  of_branches no_branches = []
  of_branches (and_branch e ss bs) = (of_expression e ++ of_statements ss) ++ of_branches bs

  pub of_alternatives : Alternatives → List Called
  of_alternatives no_alternatives = []
  of_alternatives (and_alternative choices ss more) = of_statements ss ++ of_alternatives more

abbrev pub of_declarations : List Declaration → List Called
of_declarations [] = []
of_declarations (d ∷ ds) = of_expression d.initial ++ of_declarations ds

abbrev pub of_handlers : List Handler → List Called
of_handlers [] = []
of_handlers (h ∷ hs) = of_statements h.statements ++ of_handlers hs

-- the same of a body
abbrev pub of_body : Body → List Called
of_body b = of_declarations b.declarations ++ (of_statements b.statements ++ of_handlers b.handlers)

-- a task may have no body
abbrev pub of_task : Option Body → List Called
of_task None = []
of_task (Some b) = of_body b

-- two are one operation
abbrev pub is_same : Called → Called → Bool
is_same one other = (one.object == other.object) && (one.operation == other.operation)

-- the operation is among these
abbrev pub is_among : List Called → Called → Bool
is_among operations called = list_any (is_same called) operations

-- the same operations, whatever their order, and how often each comes
abbrev pub AreSame : List Called → List Called → Type 0
AreSame operations others = (called : Called) → is_among operations called ≡ is_among others called

-- what the task that is an actor calls in its own body, if it has one
abbrev pub IsOfTask : ℕ → Option Body → TaskCalls → Type 0
IsOfTask actor body task = (task.actor ≡ actor) × AreSame task.calls.items (of_task body)

-- the same of tasks with these bodies, the first of which is this actor
abbrev pub AreOfTasks : ℕ → List (Option Body) → List TaskCalls → Type 0
AreOfTasks actor [] tasks = tasks ≡ []
AreOfTasks actor (body ∷ bodies) tasks =
    (task : TaskCalls) × (others : List TaskCalls) × IsOfTask actor body task × AreOfTasks (actor + 1) bodies others × (tasks ≡ task ∷ others)

-- these are the calls of the unit that is loaded next, behind those that are
pub record AreCallsOf (shapes : List Shape) (bodies : UnitBodies) (told : UnitCalls) : Type 0 where
  pub unit : told.unit ≡ length shapes + 1
  pub tasks : AreOfTasks (length (all_tasks shapes) + first_task) bodies.tasks told.tasks.items
