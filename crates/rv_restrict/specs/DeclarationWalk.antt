-- The violations of declarations, their own and those of their parts (ISO/IEC 8652:2012, D.7).
use Rattle.std.specs.Prelude.{Bool, true, false, ◌||◌, not, List, [], ◌∷◌}
use Rattle.rv_tree.specs.Declarations.{PragmaArgument, Pragma, Aspect, OperationDeclaration, a_pragma, a_function, a_procedure, an_entry, ProtectedElement, an_operation, a_component, ProtectedUnit, TaskItem, task_pragma, task_entry, TaskDefinition, TaskUnit, Declaration, package_pragma, a_subtype, a_protected_unit, a_task, a_variable, a_constant}
use Rattle.rv_restrict.specs.declared.violation.Restriction.TheVariants.{MaxProtectedEntries, MaxTaskEntries}
use Rattle.rv_restrict.specs.Found.{Note, ◌▷◌, nothing, broken, broken_unless, maybe_noted, each_noted}
use Rattle.rv_restrict.specs.Scope.{elements_of}
use Rattle.rv_restrict.specs.ExpressionWalk.{expression_noted, range_noted}

abbrev pub argument_noted : {A : Type 0} → Note A → PragmaArgument → A → A
argument_noted note a = expression_noted note a.value

abbrev pub pragma_noted : {A : Type 0} → Note A → Pragma → A → A
pragma_noted note p = each_noted (argument_noted note) p.arguments

abbrev pub aspect_noted : {A : Type 0} → Note A → Aspect → A → A
aspect_noted note a = maybe_noted (expression_noted note) a.value

abbrev pub is_entry : OperationDeclaration → Bool
is_entry (a_pragma p) = false
is_entry (a_function at i parameters mark) = false
is_entry (a_procedure at i parameters aspects) = false
is_entry (an_entry e) = true

-- an operation; `had` tells that the protected unit has an entry before it, which leaves room for no other
abbrev pub operation_noted : {A : Type 0} → Note A → Bool → OperationDeclaration → A → A
operation_noted note had (a_pragma p) = pragma_noted note p
operation_noted note had (a_function at i parameters mark) = nothing
operation_noted note had (a_procedure at i parameters aspects) = each_noted (aspect_noted note) aspects
operation_noted note had (an_entry e) = broken_unless note (not had) MaxProtectedEntries e.at

abbrev pub operations_noted : {A : Type 0} → Note A → Bool → List OperationDeclaration → A → A
operations_noted note had [] = nothing
operations_noted note had (o ∷ more) = operation_noted note had o ▷ operations_noted note (had || is_entry o) more

-- there was an entry before, or there is one among these
abbrev pub had_entry : Bool → List OperationDeclaration → Bool
had_entry had [] = had
had_entry had (o ∷ more) = had_entry (had || is_entry o) more

abbrev pub is_entry_element : ProtectedElement → Bool
is_entry_element (an_operation o) = is_entry o
is_entry_element (a_component names mark range value) = false

abbrev pub element_noted : {A : Type 0} → Note A → Bool → ProtectedElement → A → A
element_noted note had (an_operation o) = operation_noted note had o
element_noted note had (a_component names mark range value) =
    maybe_noted (range_noted note) range ▷ maybe_noted (expression_noted note) value

abbrev pub elements_noted : {A : Type 0} → Note A → Bool → List ProtectedElement → A → A
elements_noted note had [] = nothing
elements_noted note had (e ∷ more) = element_noted note had e ▷ elements_noted note (had || is_entry_element e) more

abbrev pub protected_noted : {A : Type 0} → Note A → ProtectedUnit → A → A
protected_noted note u =
    each_noted (aspect_noted note) u.aspects ▷ operations_noted note false u.operations
    ▷ elements_noted note (had_entry false u.operations) (elements_of u.private)

abbrev pub task_item_noted : {A : Type 0} → Note A → TaskItem → A → A
task_item_noted note (task_pragma p) = pragma_noted note p
task_item_noted note (task_entry e) = broken note MaxTaskEntries e.at

abbrev pub definition_noted : {A : Type 0} → Note A → TaskDefinition → A → A
definition_noted note d = each_noted (task_item_noted note) d.items

abbrev pub task_noted : {A : Type 0} → Note A → TaskUnit → A → A
task_noted note t = each_noted (aspect_noted note) t.aspects ▷ maybe_noted (definition_noted note) t.definition

abbrev pub declaration_noted : {A : Type 0} → Note A → Declaration → A → A
declaration_noted note (package_pragma p) = pragma_noted note p
declaration_noted note (a_subtype at i mark range) = maybe_noted (range_noted note) range
declaration_noted note (a_protected_unit u) = protected_noted note u
declaration_noted note (a_task t) = task_noted note t
declaration_noted note (a_variable names mark) = nothing
declaration_noted note (a_constant names mark e) = expression_noted note e
