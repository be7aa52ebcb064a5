-- What is declared at a place of a unit text (ISO/IEC 8652:2012, 8.1, 8.2, 8.3): of the parts of a list that one is around the place
-- which begins there or before it, and behind which none does.
use Rattle.std.specs.Prelude.{ℕ, nat_le, Bool, true, false, ◌||◌, if◌then◌else◌, List, [], ◌∷◌, Option, Some, None}
use Rattle.rv_tree.specs.Statements.{Iteration, forever, while_true, for_each, Statement, null_statement, assignment, call_statement, if_statement, case_statement, loop_statement, exit_statement, return_statement, raise_statement, delay_statement, abort_statement, requeue_statement, accept_statement, select_statement, Statements, no_statements, and_statement, ElsifParts, no_elsif_parts, and_elsif_part, Alternatives, no_alternatives, and_alternative}
use Rattle.rv_tree.specs.Declarations.{Parameter, OperationDeclaration, a_pragma, a_function, a_procedure, an_entry, ProtectedElement, an_operation, a_component, ProtectedUnit, Declaration, package_pragma, a_subtype, a_protected_unit, a_task, a_variable, a_constant}
use Rattle.rv_tree.specs.Bodies.{Local, an_object, local_pragma, local_protected_unit, local_task, Handler, Block, OperationBody, function_body, procedure_body, entry_body, ProtectedBody, TaskBody}
use Rattle.rv_tree.specs.Operations.{operation_place, operation_body_name, operation_body_parameters, operation_body_block}
use Rattle.rv_tree.specs.Places.{name_place, names_place, expression_place, declaration_place, local_place}
use Rattle.rv_tree.specs.Units.{BodyItem, body_declaration, body_protected, body_task, UnitTree}
use Rattle.rv_shape.specs.Shape.{Shape}
use Rattle.rv_scope.specs.Scope.{ScopeView, hiding, hiding_all, entered, in_body, within_unit}
use Rattle.rv_scope.specs.StatementUses.{in_loop}
use Rattle.rv_scope.specs.DeclarationUses.{with_parameters, with_operation, with_operations, with_element, naming_unit, with_declaration, with_declarations}
use Rattle.rv_scope.specs.UnitUses.{with_local, with_locals, with_profile, with_body_item, unit_of_body, in_protected_unit, protected_units, package_scope}
use Rattle.rv_seen.specs.Begun.{has_begun, are_begun, parts_are_begun, alternatives_are_begun, parameter_place, element_place, operation_body_place, item_place}

-- Statements

-- in the bounds of a loop its parameter is hidden (5.5)
abbrev pub in_iteration : Iteration → ScopeView → ScopeView
in_iteration forever scope = scope
in_iteration (while_true condition) scope = scope
in_iteration (for_each i is_reverse bounds) scope = hiding i (entered scope)

abbrev mutual
  pub at_statement : ℕ → Statement → ScopeView → ScopeView
  at_statement place (if_statement at condition ss parts otherwise) scope =
      if are_begun place otherwise then at_statements place otherwise scope
      else if parts_are_begun place parts then at_parts place parts scope
      else if are_begun place ss then at_statements place ss scope else scope
  at_statement place (case_statement at selector alternatives) scope =
      if alternatives_are_begun place alternatives then at_alternatives place alternatives scope else scope
  at_statement place (loop_statement at iteration ss) scope =
      if are_begun place ss then at_statements place ss (in_loop iteration scope) else in_iteration iteration scope
  at_statement place (null_statement at) scope = scope
  at_statement place (assignment n e) scope = scope
  at_statement place (call_statement n es) scope = scope
  at_statement place (exit_statement at condition) scope = scope
  at_statement place (return_statement at e) scope = scope
  at_statement place (raise_statement at n) scope = scope
  at_statement place (delay_statement at is_until e) scope = scope
  at_statement place (abort_statement at names) scope = scope
  at_statement place (requeue_statement at target with_abort) scope = scope
  at_statement place (accept_statement at entry parameters ss end_name) scope = scope
  at_statement place (select_statement at alternatives otherwise aborted) scope = scope

  pub at_statements : ℕ → Statements → ScopeView → ScopeView
  at_statements place no_statements scope = scope
  at_statements place (and_statement s ss) scope =
      if are_begun place ss then at_statements place ss scope else at_statement place s scope

  pub at_parts : ℕ → ElsifParts → ScopeView → ScopeView
  at_parts place no_elsif_parts scope = scope
  at_parts place (and_elsif_part at condition ss parts) scope =
      if parts_are_begun place parts then at_parts place parts scope
      else if are_begun place ss then at_statements place ss scope else scope

  pub at_alternatives : ℕ → Alternatives → ScopeView → ScopeView
  at_alternatives place no_alternatives scope = scope
  at_alternatives place (and_alternative at choices ss more) scope =
      if alternatives_are_begun place more then at_alternatives place more scope
      else if are_begun place ss then at_statements place ss scope else scope

-- Declarations of operations and protected units

abbrev pub at_parameters : ℕ → List Parameter → ScopeView → ScopeView
at_parameters place [] scope = scope
at_parameters place (p ∷ more) scope =
    if has_begun parameter_place place more then at_parameters place more (with_parameters (p ∷ []) scope)
    else if nat_le (parameter_place p) place then hiding_all p.names scope else scope

-- behind its parameters stand the mark of a function and the aspects of a procedure
abbrev pub at_operation : ℕ → OperationDeclaration → ScopeView → ScopeView
at_operation place (a_pragma pragma) scope = scope
at_operation place (a_function at i parameters mark) scope =
    if nat_le (name_place mark) place then with_parameters parameters (entered scope) else at_parameters place parameters (entered scope)
at_operation place (a_procedure at i parameters aspects) scope =
    if has_begun (λ aspect. aspect.name.at) place aspects then hiding i scope else at_parameters place parameters (entered scope)
at_operation place (an_entry entry) scope = at_parameters place entry.parameters (entered scope)

abbrev pub at_operations : ℕ → List OperationDeclaration → ScopeView → ScopeView
at_operations place [] scope = scope
at_operations place (o ∷ more) scope =
    if has_begun operation_place place more then at_operations place more (with_operation o scope) else at_operation place o scope

abbrev pub at_element : ℕ → ProtectedElement → ScopeView → ScopeView
at_element place (an_operation o) scope = at_operation place o scope
at_element place (a_component names mark range initial) scope = hiding_all names scope

abbrev pub at_elements : ℕ → List ProtectedElement → ScopeView → ScopeView
at_elements place [] scope = scope
at_elements place (e ∷ more) scope =
    if has_begun element_place place more then at_elements place more (with_element e scope) else at_element place e scope

-- the aspects of a unit stand before its operations, and these before `private`
abbrev pub before_private : ℕ → ProtectedUnit → ScopeView → ScopeView
before_private place unit scope =
    if has_begun operation_place place unit.operations then at_operations place unit.operations (entered scope) else scope

abbrev pub in_parts : ℕ → ProtectedUnit → Option (List ProtectedElement) → ScopeView → ScopeView
in_parts place unit None scope = before_private place unit scope
in_parts place unit (Some elements) scope =
    if has_begun element_place place elements then at_elements place elements (with_operations unit.operations (entered scope))
    else before_private place unit scope

abbrev pub at_declaration : ℕ → Declaration → ScopeView → ScopeView
at_declaration place (package_pragma pragma) scope = scope
at_declaration place (a_subtype at i mark range) scope = hiding i scope
at_declaration place (a_protected_unit unit) scope = in_parts place unit unit.private (within_unit unit.name.at (naming_unit unit scope))
at_declaration place (a_task task) scope = hiding task.name scope
at_declaration place (a_variable names mark) scope = hiding_all names scope
at_declaration place (a_constant names mark initial) scope = hiding_all names scope

abbrev pub at_declarations : ℕ → List Declaration → ScopeView → ScopeView
at_declarations place [] scope = scope
at_declarations place (one ∷ more) scope =
    if has_begun declaration_place place more then at_declarations place more (with_declaration one scope) else at_declaration place one scope

-- Bodies

abbrev pub at_local : Local → ScopeView → ScopeView
at_local (an_object names is_constant mark range initial) scope = hiding_all names scope
at_local (local_pragma pragma) scope = scope
at_local (local_protected_unit unit) scope = scope
at_local (local_task task) scope = scope

abbrev pub at_locals : ℕ → List Local → ScopeView → ScopeView
at_locals place [] scope = scope
at_locals place (one ∷ more) scope =
    if has_begun local_place place more then at_locals place more (with_local one scope) else at_local one scope

abbrev pub at_handlers : ℕ → List Handler → ScopeView → ScopeView
at_handlers place [] scope = scope
at_handlers place (handler ∷ more) scope =
    if has_begun (λ handler. handler.at) place more then at_handlers place more scope
    else if are_begun place handler.statements then at_statements place handler.statements scope else scope

abbrev pub at_block : ℕ → Block → ScopeView → ScopeView
at_block place block scope =
    if has_begun (λ handler. handler.at) place block.handlers then at_handlers place block.handlers (with_locals block.locals scope)
    else if are_begun place block.statements then at_statements place block.statements (with_locals block.locals scope)
    else if has_begun local_place place block.locals then at_locals place block.locals scope
    else scope

-- a part of a block begins there
abbrev pub block_has_begun : ℕ → Block → Bool
block_has_begun place block = has_begun local_place place block.locals || are_begun place block.statements

-- what stands behind the parameters of a body begins there
abbrev pub is_behind_profile : ℕ → OperationBody → Bool
is_behind_profile place (function_body at i parameters mark block) = nat_le (name_place mark) place
is_behind_profile place (procedure_body at i parameters block) = block_has_begun place block
is_behind_profile place (entry_body at i parameters barrier block) = nat_le (expression_place barrier) place

abbrev pub at_operation_body : ℕ → OperationBody → ScopeView → ScopeView
at_operation_body place body scope =
    if is_behind_profile place body then at_block place (operation_body_block body) (with_profile body scope)
    else if has_begun parameter_place place (operation_body_parameters body)
    then at_parameters place (operation_body_parameters body) (in_body (operation_body_name body) scope) else scope

abbrev pub at_operation_bodies : ℕ → List OperationBody → ScopeView → ScopeView
at_operation_bodies place [] scope = scope
at_operation_bodies place (body ∷ more) scope =
    if has_begun operation_body_place place more then at_operation_bodies place more scope else at_operation_body place body scope

abbrev pub in_unit_body : ℕ → List OperationBody → Option (ℕ × ProtectedUnit) → ScopeView → ScopeView
in_unit_body place bodies None scope = scope
in_unit_body place bodies (Some numbered) scope = at_operation_bodies place bodies (in_protected_unit numbered.1 scope)

abbrev pub at_protected_body : ℕ → List ProtectedUnit → ProtectedBody → ScopeView → ScopeView
at_protected_body place units body scope =
    if has_begun operation_body_place place body.operations
    then in_unit_body place body.operations (unit_of_body units scope body.name) scope else scope

abbrev pub at_task_body : ℕ → TaskBody → ScopeView → ScopeView
at_task_body place body scope =
    if block_has_begun place body.block then at_block place body.block (in_body body.name scope) else scope

abbrev pub at_item : ℕ → List ProtectedUnit → BodyItem → ScopeView → ScopeView
at_item place units (body_declaration one) scope = at_declaration place one scope
at_item place units (body_protected body) scope = at_protected_body place units body scope
at_item place units (body_task body) scope = at_task_body place body scope

abbrev pub at_items : ℕ → List ProtectedUnit → List BodyItem → ScopeView → ScopeView
at_items place units [] scope = scope
at_items place units (item ∷ more) scope =
    if has_begun item_place place more then at_items place units more (with_body_item item scope) else at_item place units item scope

-- Whole texts

abbrev pub in_specification : ℕ → List Declaration → ScopeView → ScopeView
in_specification place declarations scope =
    if has_begun declaration_place place declarations then at_declarations place declarations scope else scope

abbrev pub in_package_body : ℕ → List ProtectedUnit → List BodyItem → ScopeView → ScopeView
in_package_body place units items scope = if has_begun item_place place items then at_items place units items scope else scope

-- what is declared at a place of a text over the loaded units; in its context clauses all that they make visible
abbrev pub scope_at : List Shape → UnitTree → ℕ → ScopeView
scope_at shapes tree place =
    if nat_le tree.body.at place
    then in_package_body place (protected_units tree) tree.body.items (with_declarations tree.specification.declarations (package_scope shapes tree))
    else in_specification place tree.specification.declarations (package_scope shapes tree)
