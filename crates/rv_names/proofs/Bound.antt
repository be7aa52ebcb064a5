-- Where the walk through a text finds each name bound, each name that it uses is bound.
use Rattle.std.specs.Prelude.{ℕ, Bool, List, [], ◌∷◌, Option, Some, None, ◌+◌, true, false, ◌||◌, if◌then◌else◌, ◌++◌, length, codes, slice_get, ◌&&◌}
use Rattle.std.proofs.Common.{◌≡◌, refl}
use Rattle.rv_tree.specs.Names.{Identifier, Name}
use Rattle.rv_tree.specs.Expressions.{Expression, literal, name, attribute, call, parenthesized, highest, product, signed, sum, relation, logical, Expressions, no_expressions, and_expression, Factors, no_factors, and_factor, Terms, no_terms, and_term, RangeConstraint}
use Rattle.rv_scope.specs.declared.wanted.Wanted.{Wanted}
use Rattle.rv_scope.specs.declared.wanted.Wanted.TheVariants as w
use Rattle.rv_scope.specs.Scope.{ScopeView, declaring, hiding, entered, in_body, declaring_all, hiding_all, showing, Region, within_unit, with_unit, with_library, using_library, empty_scope}
use Rattle.rv_tree.specs.Statements.{Choice, others, value, between, LoopBounds, whole_bounds, two_bounds, constrained_bounds, Iteration, forever, while_true, for_each, Statement, null_statement, assignment, call_statement, if_statement, case_statement, loop_statement, exit_statement, return_statement, raise_statement, delay_statement, abort_statement, requeue_statement, accept_statement, select_statement, Statements, no_statements, and_statement, ElsifParts, no_elsif_parts, and_elsif_part, Alternatives, no_alternatives, and_alternative}
use Rattle.rv_scope.specs.declared.declared.Declared.TheVariants as d
use Rattle.rv_scope.specs.ExpressionUses.{Use, ◌▷◌, nothing, refused, expression_uses, value_uses, expressions_uses, maybe_uses, range_uses, simple, factors_uses, terms_uses}
use Rattle.indexmap.specs.IndexMap.{insert_entry}
use Rattle.rv_text.specs.Names.{is_same_name}
use Rattle.rv_tree.specs.Declarations.{PragmaArgument, Pragma, Aspect, Parameter, EntryDeclaration, OperationDeclaration, a_pragma, a_function, a_procedure, an_entry, ProtectedElement, an_operation, a_component, ProtectedUnit, TaskItem, task_pragma, task_entry, TaskDefinition, TaskUnit, Declaration, package_pragma, a_subtype, a_protected_unit, a_task, a_variable, a_constant}
use Rattle.rv_scope.specs.declared.declared.Declared.{Declared}
use Rattle.rv_scope.specs.declared.declared.OperationKind.{OperationKind}
use Rattle.rv_scope.specs.declared.declared.OperationKind.TheVariants as kind
use Rattle.rv_scope.specs.declared.declare.Form.{Form}
use Rattle.rv_scope.specs.declared.declare.Form.TheVariants as f
use Rattle.rv_scope.specs.Visible.{visible}
use Rattle.rv_tree.specs.Bodies.{Local, an_object, local_pragma, local_protected_unit, local_task, ExceptionChoice, exception_named, other_exceptions, Handler, Block, OperationBody, function_body, procedure_body, entry_body, ProtectedBody, TaskBody}
use Rattle.rv_tree.specs.Operations.{operation_body_name, operation_body_parameters, operation_body_block}
use Rattle.rv_tree.specs.Units.{ContextItem, context_pragma, with_clause, use_clause, PackageSpecification, BodyItem, body_declaration, body_protected, body_task, PackageBody, UnitTree}
use Rattle.rv_shape.specs.Shape.{Shape}
use Rattle.rv_scope.specs.declared.predefined.Library.{Library}
use Rattle.rv_scope.specs.declared.predefined.Library.TheVariants as l
use Rattle.rv_scope.specs.Wanted.{denoted, is_found, suits, sort}
use Rattle.rv_scope.specs.StatementUses.{statements_uses, choice_uses, choices_uses, bounds_uses, iteration_uses, statement_uses, elsif_parts_uses, alternatives_uses, in_loop}
use Rattle.rv_scope.specs.DeclarationUses.{parameters_uses, with_parameters, with_members, declaration_uses, with_declaration, declarations_uses, with_declarations, arguments_uses, pragma_uses, aspects_uses, operation_uses, operations_uses, element_uses, elements_uses, private_uses, parts_uses, protected_unit_uses, naming_unit, task_item_uses, task_items_uses, definition_uses, task_uses, is_priority, is_attachment, with_operation, with_operations, with_element, with_elements, with_private}
use Rattle.rv_scope.specs.UnitUses.{unit_uses, local_uses, locals_uses, exception_uses, exceptions_uses, handlers_uses, block_uses, body_wanted, mark_or_barrier_uses, with_profile, operation_body_uses, operation_bodies_uses, bodies_of_unit, protected_body_uses, task_body_uses, body_item_uses, body_items_uses, with_names_uses, use_names_uses, context_item_uses, context_uses, in_protected_unit, unit_of_body, with_body_item, withed, with_names, used_by, use_names, with_context_item, with_context, package_scope, protected_units, with_local, with_locals}
use Rattle.rv_scope.specs.Bound.{judged, Used, listed, uses, IsBound, AllBound}

-- where the one finds all bound, all that the other lists is bound
pub record Shows (f : Bool → Bool) (g : List Used → List Used) : Type 0 where
  pub shows : (bound : Bool) (used : List Used) → (bound ≡ true → AllBound used) → f bound ≡ true → AllBound (g used)

none_shown : Shows nothing nothing
none_shown = record { shows = λ bound used h e. h e }

infixr 10 ◌and◌
◌and◌ : {f g : Bool → Bool} {p q : List Used → List Used} → Shows f p → Shows g q → Shows (f ▷ g) (p ▷ q)
◌and◌ {f} {g} {p} {q} a b = record { shows = λ bound used h e. b.shows (f bound) (p used) (a.shows bound used h) e }

if_shown : (t : Bool) {f g : Bool → Bool} {p q : List Used → List Used} → Shows f p → Shows g q → Shows (if t then f else g) (if t then p else q)
if_shown true a b = a
if_shown false a b = b

both : (a b : Bool) → a && b ≡ true → (a ≡ true) × (b ≡ true)
both true b e = (refl, e)
both false b e = cc

found : (scope : ScopeView) (wanted : Wanted) (n : Name) (d : Option Declared) → denoted wanted scope n ≡ d → is_found wanted d ≡ true →
    IsBound (record { scope = scope; wanted = wanted; name = n })
found scope wanted n None v e = cc
found scope wanted n (Some to) v e = record { to = to; denotes = v; is_wanted = e }

use_shown : (scope : ScopeView) (wanted : Wanted) (n : Name) → Shows (judged scope wanted n) (listed scope wanted n)
unfolding judged
use_shown scope wanted n = record {
  shows = λ bound used h e.
      let b = both (is_found wanted (denoted wanted scope n)) bound e in
      (found scope wanted n (denoted wanted scope n) refl b.0, h b.1);
}

refused_shown : (x0 : ScopeView) (x1 : ℕ) → Shows (refused judged x0 x1) (refused listed x0 x1)
refused_shown scope at = use_shown scope w.Nothing (simple (record { at = at; text = [] }))

mutual
  expression_shown : (x0 : ScopeView) (x1 : Wanted) (x2 : Expression) → Shows (expression_uses judged x0 x1 x2) (expression_uses listed x0 x1 x2)
  expression_shown scope wanted (literal at number) = none_shown
  expression_shown scope wanted (name n) = use_shown scope wanted n
  expression_shown scope wanted (attribute n i) = use_shown scope w.Subtype n
  expression_shown scope wanted (call n es) = use_shown scope w.Called n and expressions_shown scope es
  expression_shown scope wanted (parenthesized at e) = expression_shown scope w.Value e
  expression_shown scope wanted (highest at op e) = expression_shown scope w.Value e
  expression_shown scope wanted (product e fs) = expression_shown scope w.Value e and factors_shown scope fs
  expression_shown scope wanted (signed at op e) = expression_shown scope w.Value e
  expression_shown scope wanted (sum e ts) = expression_shown scope w.Value e and terms_shown scope ts
  expression_shown scope wanted (relation e op f) = expression_shown scope w.Value e and expression_shown scope w.Value f
  expression_shown scope wanted (logical op e es) = expression_shown scope w.Value e and expressions_shown scope es

  expressions_shown : (x0 : ScopeView) (x1 : Expressions) → Shows (expressions_uses judged x0 x1) (expressions_uses listed x0 x1)
  expressions_shown scope no_expressions = none_shown
  expressions_shown scope (and_expression e es) = expression_shown scope w.Value e and expressions_shown scope es

  factors_shown : (x0 : ScopeView) (x1 : Factors) → Shows (factors_uses judged x0 x1) (factors_uses listed x0 x1)
  factors_shown scope no_factors = none_shown
  factors_shown scope (and_factor op e fs) = expression_shown scope w.Value e and factors_shown scope fs

  terms_shown : (x0 : ScopeView) (x1 : Terms) → Shows (terms_uses judged x0 x1) (terms_uses listed x0 x1)
  terms_shown scope no_terms = none_shown
  terms_shown scope (and_term op e ts) = expression_shown scope w.Value e and terms_shown scope ts

maybe_shown : {P : Type 0} (f : P → Bool → Bool) (g : P → List Used → List Used) → ((part : P) → Shows (f part) (g part)) → (part : Option P) → Shows (maybe_uses f part) (maybe_uses g part)
maybe_shown f g shown None = none_shown
maybe_shown f g shown (Some part) = shown part

value_shown : (x0 : ScopeView) (x1 : Expression) → Shows (value_uses judged x0 x1) (value_uses listed x0 x1)
value_shown scope e = expression_shown scope w.Value e

range_shown : (x0 : ScopeView) (x1 : RangeConstraint) → Shows (range_uses judged x0 x1) (range_uses listed x0 x1)
range_shown scope range = value_shown scope range.low and value_shown scope range.high

choice_shown : (x0 : ScopeView) (x1 : Choice) → Shows (choice_uses judged x0 x1) (choice_uses listed x0 x1)
choice_shown scope (others at) = none_shown
choice_shown scope (value e) = expression_shown scope w.Choice e
choice_shown scope (between low high) = value_shown scope low and value_shown scope high

choices_shown : (x0 : ScopeView) (x1 : List Choice) → Shows (choices_uses judged x0 x1) (choices_uses listed x0 x1)
choices_shown scope [] = none_shown
choices_shown scope (c ∷ cs) = choice_shown scope c and choices_shown scope cs

bounds_shown : (x0 : ScopeView) (x1 : LoopBounds) → Shows (bounds_uses judged x0 x1) (bounds_uses listed x0 x1)
bounds_shown scope (whole_bounds e) = expression_shown scope w.Subtype e
bounds_shown scope (two_bounds low high) = value_shown scope low and value_shown scope high
bounds_shown scope (constrained_bounds mark range) = use_shown scope w.Subtype mark and range_shown scope range

iteration_shown : (x0 : ScopeView) (x1 : Iteration) → Shows (iteration_uses judged x0 x1) (iteration_uses listed x0 x1)
iteration_shown scope forever = none_shown
iteration_shown scope (while_true condition) = value_shown scope condition
iteration_shown scope (for_each i is_reverse bounds) = bounds_shown (hiding i (entered scope)) bounds

mutual
  statement_shown : (x0 : ScopeView) (x1 : Statement) → Shows (statement_uses judged x0 x1) (statement_uses listed x0 x1)
  statement_shown scope (null_statement at) = none_shown
  statement_shown scope (assignment n e) = use_shown scope w.Target n and value_shown scope e
  statement_shown scope (call_statement n es) = use_shown scope w.Procedure n and expressions_shown scope es
  statement_shown scope (if_statement at condition ss parts otherwise) = value_shown scope condition and statements_shown scope ss and elsif_parts_shown scope parts and statements_shown scope otherwise
  statement_shown scope (case_statement at selector alternatives) = value_shown scope selector and alternatives_shown scope alternatives
  statement_shown scope (loop_statement at iteration ss) = iteration_shown scope iteration and statements_shown (in_loop iteration scope) ss
  statement_shown scope (exit_statement at condition) = maybe_shown (value_uses judged scope) (value_uses listed scope) (value_shown scope) condition
  statement_shown scope (return_statement at e) = maybe_shown (value_uses judged scope) (value_uses listed scope) (value_shown scope) e
  statement_shown scope (raise_statement at n) = maybe_shown (judged scope w.Exception) (listed scope w.Exception) (use_shown scope w.Exception) n
  statement_shown scope (delay_statement at is_until e) = value_shown scope e
  statement_shown scope (abort_statement at names) = refused_shown scope at
  statement_shown scope (requeue_statement at target with_abort) = refused_shown scope at
  statement_shown scope (accept_statement at entry parameters ss end_name) = use_shown scope w.Nothing (simple entry)
  statement_shown scope (select_statement at alternatives otherwise aborted) = refused_shown scope at

  statements_shown : (x0 : ScopeView) (x1 : Statements) → Shows (statements_uses judged x0 x1) (statements_uses listed x0 x1)
  statements_shown scope no_statements = none_shown
  statements_shown scope (and_statement s ss) = statement_shown scope s and statements_shown scope ss

  elsif_parts_shown : (x0 : ScopeView) (x1 : ElsifParts) → Shows (elsif_parts_uses judged x0 x1) (elsif_parts_uses listed x0 x1)
  elsif_parts_shown scope no_elsif_parts = none_shown
  elsif_parts_shown scope (and_elsif_part at condition ss parts) = value_shown scope condition and statements_shown scope ss and elsif_parts_shown scope parts

  alternatives_shown : (x0 : ScopeView) (x1 : Alternatives) → Shows (alternatives_uses judged x0 x1) (alternatives_uses listed x0 x1)
  alternatives_shown scope no_alternatives = none_shown
  alternatives_shown scope (and_alternative at choices ss more) = choices_shown scope choices and statements_shown scope ss and alternatives_shown scope more

arguments_shown : (x0 : ScopeView) (x1 : Wanted) (x2 : List PragmaArgument) → Shows (arguments_uses judged x0 x1 x2) (arguments_uses listed x0 x1 x2)
arguments_shown scope first [] = none_shown
arguments_shown scope first (argument ∷ more) = expression_shown scope first argument.value and arguments_shown scope w.Value more

pragma_shown : (x0 : ScopeView) (x1 : Pragma) → Shows (pragma_uses judged x0 x1) (pragma_uses listed x0 x1)
pragma_shown scope pragma = if_shown (is_priority pragma.name.text) (arguments_shown scope w.Value pragma.arguments) (if_shown (is_attachment pragma.name.text) (arguments_shown scope w.Handler pragma.arguments) (none_shown))

aspects_shown : (x0 : ScopeView) (x1 : List Aspect) → Shows (aspects_uses judged x0 x1) (aspects_uses listed x0 x1)
aspects_shown scope [] = none_shown
aspects_shown scope (aspect ∷ more) = maybe_shown (value_uses judged scope) (value_uses listed scope) (value_shown scope) aspect.value and aspects_shown scope more

parameters_shown : (x0 : ScopeView) (x1 : List Parameter) → Shows (parameters_uses judged x0 x1) (parameters_uses listed x0 x1)
parameters_shown scope [] = none_shown
parameters_shown scope (p ∷ more) = use_shown (hiding_all p.names scope) w.Subtype p.mark and parameters_shown (declaring_all f.Parameter p.names (hiding_all p.names scope)) more

operation_shown : (x0 : ScopeView) (x1 : OperationDeclaration) → Shows (operation_uses judged x0 x1) (operation_uses listed x0 x1)
operation_shown scope (a_pragma pragma) = pragma_shown scope pragma
operation_shown scope (a_function at i parameters mark) = parameters_shown (entered scope) parameters and use_shown (with_parameters parameters (entered scope)) w.Subtype mark
operation_shown scope (a_procedure at i parameters aspects) = parameters_shown (entered scope) parameters and aspects_shown (hiding i scope) aspects
operation_shown scope (an_entry entry) = parameters_shown (entered scope) entry.parameters

operations_shown : (x0 : ScopeView) (x1 : List OperationDeclaration) → Shows (operations_uses judged x0 x1) (operations_uses listed x0 x1)
operations_shown scope [] = none_shown
operations_shown scope (o ∷ more) = operation_shown scope o and operations_shown (with_operation o scope) more

element_shown : (x0 : ScopeView) (x1 : ProtectedElement) → Shows (element_uses judged x0 x1) (element_uses listed x0 x1)
element_shown scope (an_operation o) = operation_shown scope o
element_shown scope (a_component names mark range start) = use_shown (hiding_all names scope) w.Subtype mark and maybe_shown (range_uses judged (hiding_all names scope)) (range_uses listed (hiding_all names scope)) (range_shown (hiding_all names scope)) range and maybe_shown (value_uses judged (hiding_all names scope)) (value_uses listed (hiding_all names scope)) (value_shown (hiding_all names scope)) start

elements_shown : (x0 : ScopeView) (x1 : List ProtectedElement) → Shows (elements_uses judged x0 x1) (elements_uses listed x0 x1)
elements_shown scope [] = none_shown
elements_shown scope (e ∷ more) = element_shown scope e and elements_shown (with_element e scope) more

private_shown : (x0 : ScopeView) (x1 : Option (List ProtectedElement)) → Shows (private_uses judged x0 x1) (private_uses listed x0 x1)
private_shown scope None = none_shown
private_shown scope (Some elements) = elements_shown scope elements

parts_shown : (x0 : ScopeView) (x1 : ProtectedUnit) → Shows (parts_uses judged x0 x1) (parts_uses listed x0 x1)
parts_shown scope unit = aspects_shown scope unit.aspects and operations_shown (entered scope) unit.operations and private_shown (with_operations unit.operations (entered scope)) unit.private

protected_unit_shown : (x0 : ScopeView) (x1 : ProtectedUnit) → Shows (protected_unit_uses judged x0 x1) (protected_unit_uses listed x0 x1)
protected_unit_shown scope unit = parts_shown (within_unit unit.name.at (naming_unit unit scope)) unit

task_item_shown : (x0 : ScopeView) (x1 : TaskItem) → Shows (task_item_uses judged x0 x1) (task_item_uses listed x0 x1)
task_item_shown scope (task_pragma pragma) = pragma_shown scope pragma
task_item_shown scope (task_entry entry) = refused_shown scope entry.at

task_items_shown : (x0 : ScopeView) (x1 : List TaskItem) → Shows (task_items_uses judged x0 x1) (task_items_uses listed x0 x1)
task_items_shown scope [] = none_shown
task_items_shown scope (item ∷ more) = task_item_shown scope item and task_items_shown scope more

definition_shown : (x0 : ScopeView) (x1 : Option TaskDefinition) → Shows (definition_uses judged x0 x1) (definition_uses listed x0 x1)
definition_shown scope None = none_shown
definition_shown scope (Some definition) = task_items_shown scope definition.items

task_shown : (x0 : ScopeView) (x1 : TaskUnit) → Shows (task_uses judged x0 x1) (task_uses listed x0 x1)
task_shown scope task = aspects_shown (hiding task.name scope) task.aspects and definition_shown (hiding task.name scope) task.definition

declaration_shown : (x0 : ScopeView) (x1 : Declaration) → Shows (declaration_uses judged x0 x1) (declaration_uses listed x0 x1)
declaration_shown scope (package_pragma pragma) = none_shown
declaration_shown scope (a_subtype at i mark range) = use_shown (hiding i scope) w.Subtype mark and maybe_shown (range_uses judged (hiding i scope)) (range_uses listed (hiding i scope)) (range_shown (hiding i scope)) range
declaration_shown scope (a_protected_unit unit) = protected_unit_shown scope unit
declaration_shown scope (a_task task) = task_shown scope task
declaration_shown scope (a_variable names mark) = use_shown (hiding_all names scope) w.ObjectType mark
declaration_shown scope (a_constant names mark initial) = maybe_shown (judged (hiding_all names scope) w.Subtype) (listed (hiding_all names scope) w.Subtype) (use_shown (hiding_all names scope) w.Subtype) mark and value_shown (hiding_all names scope) initial

declarations_shown : (x0 : ScopeView) (x1 : List Declaration) → Shows (declarations_uses judged x0 x1) (declarations_uses listed x0 x1)
declarations_shown scope [] = none_shown
declarations_shown scope (one ∷ more) = declaration_shown scope one and declarations_shown (with_declaration one scope) more

local_shown : (x0 : ScopeView) (x1 : Local) → Shows (local_uses judged x0 x1) (local_uses listed x0 x1)
local_shown scope (an_object names is_constant mark range initial) = use_shown (hiding_all names scope) w.Subtype mark and maybe_shown (range_uses judged (hiding_all names scope)) (range_uses listed (hiding_all names scope)) (range_shown (hiding_all names scope)) range and maybe_shown (value_uses judged (hiding_all names scope)) (value_uses listed (hiding_all names scope)) (value_shown (hiding_all names scope)) initial
local_shown scope (local_pragma pragma) = none_shown
local_shown scope (local_protected_unit unit) = refused_shown scope unit.at
local_shown scope (local_task task) = refused_shown scope task.at

locals_shown : (x0 : ScopeView) (x1 : List Local) → Shows (locals_uses judged x0 x1) (locals_uses listed x0 x1)
locals_shown scope [] = none_shown
locals_shown scope (one ∷ more) = local_shown scope one and locals_shown (with_local one scope) more

exception_shown : (x0 : ScopeView) (x1 : ExceptionChoice) → Shows (exception_uses judged x0 x1) (exception_uses listed x0 x1)
exception_shown scope (exception_named n) = use_shown scope w.Exception n
exception_shown scope (other_exceptions at) = none_shown

exceptions_shown : (x0 : ScopeView) (x1 : List ExceptionChoice) → Shows (exceptions_uses judged x0 x1) (exceptions_uses listed x0 x1)
exceptions_shown scope [] = none_shown
exceptions_shown scope (choice ∷ more) = exception_shown scope choice and exceptions_shown scope more

handlers_shown : (x0 : ScopeView) (x1 : List Handler) → Shows (handlers_uses judged x0 x1) (handlers_uses listed x0 x1)
handlers_shown scope [] = none_shown
handlers_shown scope (handler ∷ more) = exceptions_shown scope handler.choices and statements_shown scope handler.statements and handlers_shown scope more

block_shown : (x0 : ScopeView) (x1 : Block) → Shows (block_uses judged x0 x1) (block_uses listed x0 x1)
block_shown scope block = locals_shown scope block.locals and statements_shown (with_locals block.locals scope) block.statements and handlers_shown (with_locals block.locals scope) block.handlers

mark_or_barrier_shown : (x0 : ScopeView) (x1 : OperationBody) → Shows (mark_or_barrier_uses judged x0 x1) (mark_or_barrier_uses listed x0 x1)
mark_or_barrier_shown scope (function_body at i parameters mark block) = use_shown scope w.Subtype mark
mark_or_barrier_shown scope (procedure_body at i parameters block) = none_shown
mark_or_barrier_shown scope (entry_body at i parameters barrier block) = value_shown scope barrier

operation_body_shown : (x0 : ScopeView) (x1 : OperationBody) → Shows (operation_body_uses judged x0 x1) (operation_body_uses listed x0 x1)
operation_body_shown scope body = use_shown scope (body_wanted body) (simple (operation_body_name body)) and parameters_shown (in_body (operation_body_name body) scope) (operation_body_parameters body) and mark_or_barrier_shown (with_profile body scope) body and block_shown (with_profile body scope) (operation_body_block body)

operation_bodies_shown : (x0 : ScopeView) (x1 : List OperationBody) → Shows (operation_bodies_uses judged x0 x1) (operation_bodies_uses listed x0 x1)
operation_bodies_shown scope [] = none_shown
operation_bodies_shown scope (body ∷ more) = operation_body_shown scope body and operation_bodies_shown scope more

bodies_of_unit_shown : (x0 : ScopeView) (x1 : List OperationBody) (x2 : Option (ℕ × ProtectedUnit)) → Shows (bodies_of_unit judged x0 x1 x2) (bodies_of_unit listed x0 x1 x2)
bodies_of_unit_shown scope bodies None = none_shown
bodies_of_unit_shown scope bodies (Some numbered) = operation_bodies_shown (in_protected_unit numbered.1 scope) bodies

protected_body_shown : (x0 : List ProtectedUnit) (x1 : ScopeView) (x2 : ProtectedBody) → Shows (protected_body_uses judged x0 x1 x2) (protected_body_uses listed x0 x1 x2)
protected_body_shown units scope body = use_shown scope w.ProtectedBody (simple body.name) and bodies_of_unit_shown scope body.operations (unit_of_body units scope body.name)

task_body_shown : (x0 : ScopeView) (x1 : TaskBody) → Shows (task_body_uses judged x0 x1) (task_body_uses listed x0 x1)
task_body_shown scope body = use_shown scope w.TaskBody (simple body.name) and block_shown (in_body body.name scope) body.block

body_item_shown : (x0 : List ProtectedUnit) (x1 : ScopeView) (x2 : BodyItem) → Shows (body_item_uses judged x0 x1 x2) (body_item_uses listed x0 x1 x2)
body_item_shown units scope (body_declaration one) = declaration_shown scope one
body_item_shown units scope (body_protected body) = protected_body_shown units scope body
body_item_shown units scope (body_task body) = task_body_shown scope body

body_items_shown : (x0 : List ProtectedUnit) (x1 : ScopeView) (x2 : List BodyItem) → Shows (body_items_uses judged x0 x1 x2) (body_items_uses listed x0 x1 x2)
body_items_shown units scope [] = none_shown
body_items_shown units scope (one ∷ more) = body_item_shown units scope one and body_items_shown units (with_body_item one scope) more

with_names_shown : (x0 : ScopeView) (x1 : List Name) → Shows (with_names_uses judged x0 x1) (with_names_uses listed x0 x1)
with_names_shown scope [] = none_shown
with_names_shown scope (n ∷ more) = use_shown scope w.With n and with_names_shown (withed (denoted w.With scope n) scope) more

use_names_shown : (x0 : ScopeView) (x1 : List Name) → Shows (use_names_uses judged x0 x1) (use_names_uses listed x0 x1)
use_names_shown scope [] = none_shown
use_names_shown scope (n ∷ more) = use_shown scope w.Use n and use_names_shown (used_by (denoted w.Use scope n) scope) more

context_item_shown : (x0 : ScopeView) (x1 : ContextItem) → Shows (context_item_uses judged x0 x1) (context_item_uses listed x0 x1)
context_item_shown scope (context_pragma pragma) = none_shown
context_item_shown scope (with_clause at names) = with_names_shown scope names
context_item_shown scope (use_clause at true names) = none_shown
context_item_shown scope (use_clause at false names) = use_names_shown scope names

context_shown : (x0 : ScopeView) (x1 : List ContextItem) → Shows (context_uses judged x0 x1) (context_uses listed x0 x1)
context_shown scope [] = none_shown
context_shown scope (item ∷ more) = context_item_shown scope item and context_shown (with_context_item item scope) more

unit_shown : (x0 : List Shape) (x1 : UnitTree) → Shows (unit_uses judged x0 x1) (unit_uses listed x0 x1)
unit_shown shapes tree = context_shown (empty_scope tree.specification.name.text shapes) tree.context and declarations_shown (package_scope shapes tree) tree.specification.declarations and use_shown (with_declarations tree.specification.declarations (package_scope shapes tree)) w.PackageBody (simple tree.body.name) and body_items_shown (protected_units tree) (with_declarations tree.specification.declarations (package_scope shapes tree)) tree.body.items

pub all_bound : (shapes : List Shape) (tree : UnitTree) → unit_uses judged shapes tree true ≡ true → AllBound (uses shapes tree)
all_bound shapes tree e = (unit_shown shapes tree).shows true [] (λ h. tt) e
