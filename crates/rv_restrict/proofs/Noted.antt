-- The first violation that is found on the way is the first of all that are noted on the way.
use Rattle.std.specs.Prelude.{ℕ, Bool, true, false, ◌||◌, not, codes, if◌then◌else◌}
use Rattle.std.proofs.Common.{◌≡◌, ap, ◌∙◌, refl, List, [], ◌∷◌, Option, Some, None}
use Rattle.rv_text.specs.Names.{is_same_name}
use Rattle.rv_tree.specs.Names.{Identifier, Name}
use Rattle.rv_tree.specs.Expressions.{Expression, literal, name, attribute, call, parenthesized, highest, product, signed, sum, relation, logical, Expressions, no_expressions, and_expression, Factors, no_factors, and_factor, Terms, no_terms, and_term, RangeConstraint}
use Rattle.rv_tree.specs.Statements.{Choice, others, value, between, LoopBounds, whole_bounds, two_bounds, constrained_bounds, Iteration, forever, while_true, for_each, Guard, Statement, null_statement, assignment, call_statement, if_statement, case_statement, loop_statement, exit_statement, return_statement, raise_statement, delay_statement, abort_statement, requeue_statement, accept_statement, select_statement, Statements, no_statements, and_statement, ElsifParts, no_elsif_parts, and_elsif_part, Alternatives, no_alternatives, and_alternative, Selective, some_statements, terminate, Selectives, no_selectives, and_selective}
use Rattle.rv_tree.specs.Declarations.{PragmaArgument, Pragma, Aspect, Parameter, OperationDeclaration, a_pragma, a_function, a_procedure, an_entry, ProtectedElement, an_operation, a_component, ProtectedUnit, TaskItem, task_pragma, task_entry, TaskDefinition, TaskUnit, Declaration, package_pragma, a_subtype, a_protected_unit, a_task, a_variable, a_constant}
use Rattle.rv_tree.specs.Bodies.{Local, an_object, local_pragma, local_protected_unit, local_task, Handler, Block, OperationBody, function_body, procedure_body, entry_body, ProtectedBody}
use Rattle.rv_tree.specs.Units.{ContextItem, context_pragma, with_clause, use_clause, BodyItem, body_declaration, body_protected, body_task, UnitTree}
use Rattle.rv_tree.specs.Places.{names_place, expression_place}
use Rattle.rv_restrict.specs.declared.violation.Restriction.TheVariants.{NoAbortStatements, NoRequeueStatements, NoSelectStatements, NoRelativeDelay, NoLocalProtectedObjects, NoTaskHierarchy, MaxProtectedEntries, MaxTaskEntries, SimpleBarriers, NoDynamicPriorities, NoDependence}
use Rattle.rv_restrict.specs.declared.violation.Restriction.{Restriction}
use Rattle.rv_restrict.specs.declared.violation.Violation.{Violation}
use Rattle.rv_restrict.specs.Found.{Note, ◌▷◌, nothing, broken, broken_unless, maybe_noted, each_noted, earlier, first_of}
use Rattle.rv_restrict.specs.Scope.{elements_of, names_protected_type}
use Rattle.rv_restrict.specs.Barriers.{is_simple_barrier}
use Rattle.rv_restrict.specs.Dependences.{is_excluded, is_dynamic_priorities}
use Rattle.rv_restrict.specs.ExpressionWalk.{attribute_noted, expression_noted, expressions_noted, factors_noted, terms_noted, range_noted}
use Rattle.rv_restrict.specs.StatementWalk.{choice_noted, bounds_noted, iteration_noted, guard_noted, delay_noted, statement_noted, statements_noted, elsif_parts_noted, alternatives_noted, selective_noted, selectives_noted}
use Rattle.rv_restrict.specs.DeclarationWalk.{argument_noted, pragma_noted, aspect_noted, is_entry, operation_noted, operations_noted, had_entry, is_entry_element, element_noted, elements_noted, protected_noted, task_item_noted, definition_noted, task_noted, declaration_noted}
use Rattle.rv_restrict.specs.UnitWalk.{local_noted, handler_noted, block_noted, barrier_noted, operation_body_noted, protected_body_noted, item_noted, with_noted, context_noted, unit_noted}

abbrev all : Note (List Violation)
all v vs = v ∷ vs

-- the one way finds the first of what the other notes
pub record Keeps (f : Option Violation → Option Violation) (g : List Violation → List Violation) : Type 0 where
  pub keeps : (vs : List Violation) → f (first_of vs) ≡ first_of (g vs)

none_kept : Keeps nothing nothing
none_kept = record { keeps = λ vs. refl }

one_kept : (restriction : Restriction) (place : ℕ) → Keeps (broken earlier restriction place) (broken all restriction place)
one_kept restriction place = record { keeps = λ vs. refl }

infixr 10 ◌and◌
◌and◌ : {f g : Option Violation → Option Violation} {p q : List Violation → List Violation} → Keeps f p → Keeps g q → Keeps (f ▷ g) (p ▷ q)
◌and◌ {f} {g} {p} {q} a b = record { keeps = λ vs. ap g (a.keeps vs) ∙ b.keeps (p vs) }

kept_if : (b : Bool) (restriction : Restriction) (place : ℕ) → Keeps (if b then broken earlier restriction place else nothing) (if b then broken all restriction place else nothing)
kept_if true restriction place = one_kept restriction place
kept_if false restriction place = none_kept

kept_unless : (b : Bool) (restriction : Restriction) (place : ℕ) → Keeps (broken_unless earlier b restriction place) (broken_unless all b restriction place)
kept_unless true restriction place = none_kept
kept_unless false restriction place = one_kept restriction place

maybe_keeps : {P : Type 0} (f : P → Option Violation → Option Violation) (g : P → List Violation → List Violation) → ((part : P) → Keeps (f part) (g part)) → (part : Option P) → Keeps (maybe_noted f part) (maybe_noted g part)
maybe_keeps f g kept None = none_kept
maybe_keeps f g kept (Some part) = kept part

each_keeps : {P : Type 0} (f : P → Option Violation → Option Violation) (g : P → List Violation → List Violation) → ((part : P) → Keeps (f part) (g part)) → (parts : List P) → Keeps (each_noted f parts) (each_noted g parts)
each_keeps f g kept [] = none_kept
each_keeps f g kept (part ∷ parts) = kept part and each_keeps f g kept parts

attribute_keeps : (x0 : Name) (x1 : Identifier) → Keeps (attribute_noted earlier x0 x1) (attribute_noted all x0 x1)
attribute_keeps prefix named = kept_if (is_same_name named.text (codes "Priority")) NoDynamicPriorities (prefix.first.at)

mutual
  expression_keeps : (x0 : Expression) → Keeps (expression_noted earlier x0) (expression_noted all x0)
  expression_keeps (literal at number) = none_kept
  expression_keeps (name n) = none_kept
  expression_keeps (attribute n i) = attribute_keeps n i
  expression_keeps (call n es) = expressions_keeps es
  expression_keeps (parenthesized at e) = expression_keeps e
  expression_keeps (highest at op e) = expression_keeps e
  expression_keeps (product e fs) = expression_keeps e and factors_keeps fs
  expression_keeps (signed at op e) = expression_keeps e
  expression_keeps (sum e ts) = expression_keeps e and terms_keeps ts
  expression_keeps (relation e op f) = expression_keeps e and expression_keeps f
  expression_keeps (logical op e es) = expression_keeps e and expressions_keeps es

  expressions_keeps : (x0 : Expressions) → Keeps (expressions_noted earlier x0) (expressions_noted all x0)
  expressions_keeps no_expressions = none_kept
  expressions_keeps (and_expression e es) = expression_keeps e and expressions_keeps es

  factors_keeps : (x0 : Factors) → Keeps (factors_noted earlier x0) (factors_noted all x0)
  factors_keeps no_factors = none_kept
  factors_keeps (and_factor op e fs) = expression_keeps e and factors_keeps fs

  terms_keeps : (x0 : Terms) → Keeps (terms_noted earlier x0) (terms_noted all x0)
  terms_keeps no_terms = none_kept
  terms_keeps (and_term op e ts) = expression_keeps e and terms_keeps ts

range_keeps : (x0 : RangeConstraint) → Keeps (range_noted earlier x0) (range_noted all x0)
range_keeps r = expression_keeps r.low and expression_keeps r.high

choice_keeps : (x0 : Choice) → Keeps (choice_noted earlier x0) (choice_noted all x0)
choice_keeps (others at) = none_kept
choice_keeps (value e) = expression_keeps e
choice_keeps (between low high) = expression_keeps low and expression_keeps high

bounds_keeps : (x0 : LoopBounds) → Keeps (bounds_noted earlier x0) (bounds_noted all x0)
bounds_keeps (whole_bounds e) = expression_keeps e
bounds_keeps (two_bounds low high) = expression_keeps low and expression_keeps high
bounds_keeps (constrained_bounds mark range) = range_keeps range

iteration_keeps : (x0 : Iteration) → Keeps (iteration_noted earlier x0) (iteration_noted all x0)
iteration_keeps forever = none_kept
iteration_keeps (while_true condition) = expression_keeps condition
iteration_keeps (for_each parameter is_reverse bounds) = bounds_keeps bounds

guard_keeps : (x0 : Guard) → Keeps (guard_noted earlier x0) (guard_noted all x0)
guard_keeps g = expression_keeps g.condition

delay_keeps : (x0 : ℕ) (x1 : Bool) → Keeps (delay_noted earlier x0 x1) (delay_noted all x0 x1)
delay_keeps at true = none_kept
delay_keeps at false = one_kept NoRelativeDelay at

mutual
  statement_keeps : (x0 : Statement) → Keeps (statement_noted earlier x0) (statement_noted all x0)
  statement_keeps (null_statement at) = none_kept
  statement_keeps (assignment n e) = expression_keeps e
  statement_keeps (call_statement n es) = expressions_keeps es
  statement_keeps (if_statement at condition ss parts otherwise) = expression_keeps condition and statements_keeps ss and elsif_parts_keeps parts and statements_keeps otherwise
  statement_keeps (case_statement at selector alternatives) = expression_keeps selector and alternatives_keeps alternatives
  statement_keeps (loop_statement at iteration ss) = iteration_keeps iteration and statements_keeps ss
  statement_keeps (exit_statement at condition) = maybe_keeps (expression_noted earlier) (expression_noted all) expression_keeps condition
  statement_keeps (return_statement at e) = maybe_keeps (expression_noted earlier) (expression_noted all) expression_keeps e
  statement_keeps (raise_statement at n) = none_kept
  statement_keeps (delay_statement at is_until e) = delay_keeps at is_until and expression_keeps e
  statement_keeps (abort_statement at names) = one_kept NoAbortStatements at
  statement_keeps (requeue_statement at target with_abort) = one_kept NoRequeueStatements at
  statement_keeps (accept_statement at entry parameters ss end_name) = statements_keeps ss
  statement_keeps (select_statement at alternatives otherwise aborted) = one_kept NoSelectStatements at and selectives_keeps alternatives and statements_keeps otherwise and statements_keeps aborted

  statements_keeps : (x0 : Statements) → Keeps (statements_noted earlier x0) (statements_noted all x0)
  statements_keeps no_statements = none_kept
  statements_keeps (and_statement s ss) = statement_keeps s and statements_keeps ss

  elsif_parts_keeps : (x0 : ElsifParts) → Keeps (elsif_parts_noted earlier x0) (elsif_parts_noted all x0)
  elsif_parts_keeps no_elsif_parts = none_kept
  elsif_parts_keeps (and_elsif_part at condition ss parts) = expression_keeps condition and statements_keeps ss and elsif_parts_keeps parts

  alternatives_keeps : (x0 : Alternatives) → Keeps (alternatives_noted earlier x0) (alternatives_noted all x0)
  alternatives_keeps no_alternatives = none_kept
  alternatives_keeps (and_alternative at choices ss more) = each_keeps (choice_noted earlier) (choice_noted all) choice_keeps choices and statements_keeps ss and alternatives_keeps more

  selective_keeps : (x0 : Selective) → Keeps (selective_noted earlier x0) (selective_noted all x0)
  selective_keeps (some_statements guard ss) = maybe_keeps (guard_noted earlier) (guard_noted all) guard_keeps guard and statements_keeps ss
  selective_keeps (terminate guard at) = maybe_keeps (guard_noted earlier) (guard_noted all) guard_keeps guard

  selectives_keeps : (x0 : Selectives) → Keeps (selectives_noted earlier x0) (selectives_noted all x0)
  selectives_keeps no_selectives = none_kept
  selectives_keeps (and_selective a more) = selective_keeps a and selectives_keeps more

maybe_expression_keeps : (e : Option Expression) → Keeps (maybe_noted (expression_noted earlier) e) (maybe_noted (expression_noted all) e)
maybe_expression_keeps = maybe_keeps (expression_noted earlier) (expression_noted all) expression_keeps

maybe_range_keeps : (r : Option RangeConstraint) → Keeps (maybe_noted (range_noted earlier) r) (maybe_noted (range_noted all) r)
maybe_range_keeps = maybe_keeps (range_noted earlier) (range_noted all) range_keeps

argument_keeps : (a : PragmaArgument) → Keeps (argument_noted earlier a) (argument_noted all a)
argument_keeps a = expression_keeps a.value

pragma_keeps : (p : Pragma) → Keeps (pragma_noted earlier p) (pragma_noted all p)
pragma_keeps p = each_keeps (argument_noted earlier) (argument_noted all) argument_keeps p.arguments

aspect_keeps : (a : Aspect) → Keeps (aspect_noted earlier a) (aspect_noted all a)
aspect_keeps a = maybe_expression_keeps a.value

aspects_keep : (parts : List Aspect) → Keeps (each_noted (aspect_noted earlier) parts) (each_noted (aspect_noted all) parts)
aspects_keep = each_keeps (aspect_noted earlier) (aspect_noted all) aspect_keeps

operation_keeps : (had : Bool) (o : OperationDeclaration) → Keeps (operation_noted earlier had o) (operation_noted all had o)
operation_keeps had (a_pragma p) = pragma_keeps p
operation_keeps had (a_function at i parameters mark) = none_kept
operation_keeps had (a_procedure at i parameters aspects) = aspects_keep aspects
operation_keeps had (an_entry e) = kept_unless (not had) MaxProtectedEntries e.at

operations_keep : (had : Bool) (parts : List OperationDeclaration) → Keeps (operations_noted earlier had parts) (operations_noted all had parts)
operations_keep had [] = none_kept
operations_keep had (o ∷ more) = operation_keeps had o and operations_keep (had || is_entry o) more

element_keeps : (had : Bool) (e : ProtectedElement) → Keeps (element_noted earlier had e) (element_noted all had e)
element_keeps had (an_operation o) = operation_keeps had o
element_keeps had (a_component names mark range start) = maybe_range_keeps range and maybe_expression_keeps start

elements_keep : (had : Bool) (parts : List ProtectedElement) → Keeps (elements_noted earlier had parts) (elements_noted all had parts)
elements_keep had [] = none_kept
elements_keep had (e ∷ more) = element_keeps had e and elements_keep (had || is_entry_element e) more

protected_keeps : (u : ProtectedUnit) → Keeps (protected_noted earlier u) (protected_noted all u)
protected_keeps u = aspects_keep u.aspects and operations_keep false u.operations and elements_keep (had_entry false u.operations) (elements_of u.private)

task_item_keeps : (i : TaskItem) → Keeps (task_item_noted earlier i) (task_item_noted all i)
task_item_keeps (task_pragma p) = pragma_keeps p
task_item_keeps (task_entry e) = one_kept MaxTaskEntries e.at

definition_keeps : (d : TaskDefinition) → Keeps (definition_noted earlier d) (definition_noted all d)
definition_keeps d = each_keeps (task_item_noted earlier) (task_item_noted all) task_item_keeps d.items

task_keeps : (t : TaskUnit) → Keeps (task_noted earlier t) (task_noted all t)
task_keeps t = aspects_keep t.aspects and maybe_keeps (definition_noted earlier) (definition_noted all) definition_keeps t.definition

declaration_keeps : (d : Declaration) → Keeps (declaration_noted earlier d) (declaration_noted all d)
declaration_keeps (package_pragma p) = pragma_keeps p
declaration_keeps (a_subtype at i mark range) = maybe_range_keeps range
declaration_keeps (a_protected_unit u) = protected_keeps u
declaration_keeps (a_task t) = task_keeps t
declaration_keeps (a_variable names mark) = none_kept
declaration_keeps (a_constant names mark e) = expression_keeps e

local_keeps : (tree : UnitTree) (unit : List ℕ) (parameters : List Parameter) (locals : List Local) (l : Local) → Keeps (local_noted earlier tree unit parameters locals l) (local_noted all tree unit parameters locals l)
local_keeps tree unit parameters locals (an_object names is_constant mark range start) =
    kept_unless (not (names_protected_type tree unit parameters locals mark)) NoLocalProtectedObjects (names_place names)
    and maybe_range_keeps range and maybe_expression_keeps start
local_keeps tree unit parameters locals (local_pragma p) = pragma_keeps p
local_keeps tree unit parameters locals (local_protected_unit u) = kept_unless u.is_type NoLocalProtectedObjects u.at and protected_keeps u
local_keeps tree unit parameters locals (local_task t) = one_kept NoTaskHierarchy t.at and task_keeps t

handler_keeps : (h : Handler) → Keeps (handler_noted earlier h) (handler_noted all h)
handler_keeps h = statements_keeps h.statements

block_keeps : (tree : UnitTree) (unit : List ℕ) (parameters : List Parameter) (b : Block) → Keeps (block_noted earlier tree unit parameters b) (block_noted all tree unit parameters b)
unfolding block_noted
block_keeps tree unit parameters b =
    each_keeps (local_noted earlier tree unit parameters b.locals) (local_noted all tree unit parameters b.locals) (local_keeps tree unit parameters b.locals) b.locals
    and statements_keeps b.statements and each_keeps (handler_noted earlier) (handler_noted all) handler_keeps b.handlers

barrier_keeps : (tree : UnitTree) (unit : List ℕ) (parameters : List Parameter) (e : Expression) → Keeps (barrier_noted earlier tree unit parameters e) (barrier_noted all tree unit parameters e)
barrier_keeps tree unit parameters e = kept_unless (is_simple_barrier tree unit parameters e) SimpleBarriers (expression_place e) and expression_keeps e

operation_body_keeps : (tree : UnitTree) (unit : List ℕ) (o : OperationBody) → Keeps (operation_body_noted earlier tree unit o) (operation_body_noted all tree unit o)
operation_body_keeps tree unit (function_body at i parameters mark b) = block_keeps tree unit parameters b
operation_body_keeps tree unit (procedure_body at i parameters b) = block_keeps tree unit parameters b
operation_body_keeps tree unit (entry_body at i parameters barrier b) = barrier_keeps tree unit parameters barrier and block_keeps tree unit parameters b

protected_body_keeps : (tree : UnitTree) (b : ProtectedBody) → Keeps (protected_body_noted earlier tree b) (protected_body_noted all tree b)
protected_body_keeps tree b =
    each_keeps (operation_body_noted earlier tree b.name.text) (operation_body_noted all tree b.name.text)
    (operation_body_keeps tree b.name.text) b.operations

item_keeps : (tree : UnitTree) (i : BodyItem) → Keeps (item_noted earlier tree i) (item_noted all tree i)
item_keeps tree (body_declaration d) = declaration_keeps d
item_keeps tree (body_protected b) = protected_body_keeps tree b
item_keeps tree (body_task b) = block_keeps tree b.name.text [] b.block

with_keeps : (n : Name) → Keeps (with_noted earlier n) (with_noted all n)
unfolding with_noted
with_keeps n = kept_unless (not (is_dynamic_priorities n)) NoDynamicPriorities n.first.at and kept_unless (not (is_excluded n)) NoDependence n.first.at

context_keeps : (c : ContextItem) → Keeps (context_noted earlier c) (context_noted all c)
context_keeps (context_pragma p) = pragma_keeps p
context_keeps (with_clause at names) = each_keeps (with_noted earlier) (with_noted all) with_keeps names
context_keeps (use_clause at is_type names) = none_kept

unit_keeps : (tree : UnitTree) → Keeps (unit_noted earlier tree) (unit_noted all tree)
unfolding unit_noted
unit_keeps tree =
    each_keeps (context_noted earlier) (context_noted all) context_keeps tree.context
    and each_keeps (declaration_noted earlier) (declaration_noted all) declaration_keeps tree.specification.declarations
    and each_keeps (item_noted earlier tree) (item_noted all tree) (item_keeps tree) tree.body.items

pub first_noted : (tree : UnitTree) → unit_noted earlier tree None ≡ first_of (unit_noted all tree [])
first_noted tree = (unit_keeps tree).keeps []
