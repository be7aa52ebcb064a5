-- The violations of blocks, bodies and whole units, their own and those of their parts (ISO/IEC 8652:2012, D.7, D.13).
use Rattle.std.specs.Prelude.{ℕ, not, List, []}
use Rattle.rv_tree.specs.Names.{Name}
use Rattle.rv_tree.specs.Expressions.{Expression}
use Rattle.rv_tree.specs.Declarations.{Parameter}
use Rattle.rv_tree.specs.Bodies.{Local, an_object, local_pragma, local_protected_unit, local_task, Handler, Block, OperationBody, function_body, procedure_body, entry_body, ProtectedBody, TaskBody}
use Rattle.rv_tree.specs.Units.{ContextItem, context_pragma, with_clause, use_clause, BodyItem, body_declaration, body_protected, body_task, UnitTree}
use Rattle.rv_tree.specs.Places.{names_place, expression_place}
use Rattle.rv_restrict.specs.declared.violation.Restriction.TheVariants.{NoLocalProtectedObjects, NoTaskHierarchy, SimpleBarriers, NoDynamicPriorities, NoDependence}
use Rattle.rv_restrict.specs.Found.{Note, ◌▷◌, nothing, broken, broken_unless, maybe_noted, each_noted}
use Rattle.rv_restrict.specs.Scope.{names_protected_type}
use Rattle.rv_restrict.specs.Barriers.{is_simple_barrier}
use Rattle.rv_restrict.specs.Dependences.{is_excluded, is_dynamic_priorities}
use Rattle.rv_restrict.specs.ExpressionWalk.{expression_noted, range_noted}
use Rattle.rv_restrict.specs.StatementWalk.{statements_noted}
use Rattle.rv_restrict.specs.DeclarationWalk.{pragma_noted, protected_noted, task_noted, declaration_noted}

-- a declaration of a block
abbrev pub local_noted : {A : Type 0} → Note A → UnitTree → List ℕ → List Parameter → List Local → Local → A → A
local_noted note tree unit parameters locals (an_object names is_constant mark range value) =
    broken_unless note (not (names_protected_type tree unit parameters locals mark)) NoLocalProtectedObjects (names_place names)
    ▷ maybe_noted (range_noted note) range ▷ maybe_noted (expression_noted note) value
local_noted note tree unit parameters locals (local_pragma p) = pragma_noted note p
local_noted note tree unit parameters locals (local_protected_unit u) =
    broken_unless note u.is_type NoLocalProtectedObjects u.at ▷ protected_noted note u
local_noted note tree unit parameters locals (local_task t) = broken note NoTaskHierarchy t.at ▷ task_noted note t

abbrev pub handler_noted : {A : Type 0} → Note A → Handler → A → A
handler_noted note h = statements_noted note h.statements

-- a block in the body of an operation with these parameters of the protected unit of this name, or of the task of this name
unfoldable pub block_noted : {A : Type 0} → Note A → UnitTree → List ℕ → List Parameter → Block → A → A
block_noted note tree unit parameters b =
    each_noted (local_noted note tree unit parameters b.locals) b.locals ▷ statements_noted note b.statements
    ▷ each_noted (handler_noted note) b.handlers

-- the barrier of an entry with these parameters
abbrev pub barrier_noted : {A : Type 0} → Note A → UnitTree → List ℕ → List Parameter → Expression → A → A
barrier_noted note tree unit parameters e =
    broken_unless note (is_simple_barrier tree unit parameters e) SimpleBarriers (expression_place e) ▷ expression_noted note e

-- the body of an operation of the protected unit of this name
abbrev pub operation_body_noted : {A : Type 0} → Note A → UnitTree → List ℕ → OperationBody → A → A
operation_body_noted note tree unit (function_body at i parameters mark b) = block_noted note tree unit parameters b
operation_body_noted note tree unit (procedure_body at i parameters b) = block_noted note tree unit parameters b
operation_body_noted note tree unit (entry_body at i parameters barrier b) =
    barrier_noted note tree unit parameters barrier ▷ block_noted note tree unit parameters b

abbrev pub protected_body_noted : {A : Type 0} → Note A → UnitTree → ProtectedBody → A → A
protected_body_noted note tree b =
    each_noted (operation_body_noted note tree b.name.text) b.operations

abbrev pub task_body_noted : {A : Type 0} → Note A → UnitTree → TaskBody → A → A
task_body_noted note tree b = block_noted note tree b.name.text [] b.block

abbrev pub item_noted : {A : Type 0} → Note A → UnitTree → BodyItem → A → A
item_noted note tree (body_declaration d) = declaration_noted note d
item_noted note tree (body_protected b) = protected_body_noted note tree b
item_noted note tree (body_task b) = task_body_noted note tree b

-- a name of a `with`
unfoldable pub with_noted : {A : Type 0} → Note A → Name → A → A
with_noted note n =
    broken_unless note (not (is_dynamic_priorities n)) NoDynamicPriorities n.first.at
    ▷ broken_unless note (not (is_excluded n)) NoDependence n.first.at

abbrev pub context_noted : {A : Type 0} → Note A → ContextItem → A → A
context_noted note (context_pragma p) = pragma_noted note p
context_noted note (with_clause at names) = each_noted (with_noted note) names
context_noted note (use_clause at is_type names) = nothing

unfoldable pub unit_noted : {A : Type 0} → Note A → UnitTree → A → A
unit_noted note tree =
    each_noted (context_noted note) tree.context
    ▷ each_noted (declaration_noted note) tree.specification.declarations
    ▷ each_noted (item_noted note tree) tree.body.items
