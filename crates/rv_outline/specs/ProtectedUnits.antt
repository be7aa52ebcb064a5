-- What protected units and tasks add to an outline, part by part in the order of the text (ISO/IEC 8652:2012, 9.1, 9.4,
-- C.3.1, D.1, D.3).
use Rattle.std.specs.Prelude.{ℕ, Bool, true, false, if◌then◌else◌, List, [], ◌∷◌, Option, Some, None, length}
use Rattle.rv_tree.specs.Names.{Identifier, Name}
use Rattle.rv_tree.specs.Expressions.{Expression, RangeConstraint}
use Rattle.rv_tree.specs.Declarations.{Pragma, Aspect, OperationDeclaration, a_pragma, a_procedure, ProtectedElement, an_operation, a_component, ProtectedUnit, TaskItem, task_pragma, task_entry, TaskDefinition, TaskUnit}
use Rattle.rv_shape.specs.declared.kind.Kind.TheVariants.{Handler}
use Rattle.rv_shape.specs.declared.kind.Component.{Component}
use Rattle.rv_static.specs.declared.meaning.Meaning.{Meaning}
use Rattle.rv_static.specs.Static.{◌>>=◌}
use Rattle.rv_static.specs.Ranges.{start_of}
use Rattle.rv_scope.specs.Scope.{ScopeView, hiding, hiding_all, entered, within_unit}
use Rattle.rv_scope.specs.Heads.{Head, declared_head}
use Rattle.rv_scope.specs.DeclarationUses.{is_priority, is_attachment, with_operation, with_operations, with_element, naming_unit}
use Rattle.rv_outline.specs.declared.outline.ObjectType.TheVariants as sort
use Rattle.rv_outline.specs.declared.handler.Attachment.{Attachment}
use Rattle.rv_scope.specs.Statics.{means}
use Rattle.rv_outline.specs.Drafts.{Draft, noted, started, giving_priority, adding_components, adding_operation, adding_object, having_kind, finished, finished_task}
use Rattle.rv_scope.specs.Subtypes.{subtype_of}
use Rattle.rv_outline.specs.Profiles.{operation_in}
use Rattle.rv_outline.specs.Priorities.{aspect_priority, pragma_priority}
use Rattle.rv_outline.specs.Handlers.{aspect_line, attachment}

-- Aspects and pragmas

-- an aspect of a protected unit or a task: a priority, or nothing
abbrev pub aspect_outlined : ScopeView → Aspect → Draft → Draft
aspect_outlined scope aspect draft =
    if is_priority aspect.name.text
    then noted (aspect_priority (means scope draft.known) aspect.name.text aspect.value) giving_priority draft
    else draft

abbrev pub aspects_outlined : ScopeView → List Aspect → Draft → Draft
aspects_outlined scope [] draft = draft
aspects_outlined scope (aspect ∷ more) draft = aspects_outlined scope more (aspect_outlined scope aspect draft)

-- the procedure of this place handles a line
abbrev pub handling : ℕ → ℕ → Draft → Draft
handling at line draft = having_kind at (Handler line) draft

-- an aspect of a procedure: a line that it handles, or nothing
abbrev pub procedure_aspect_outlined : ScopeView → Identifier → Aspect → Draft → Draft
procedure_aspect_outlined scope i aspect draft =
    if is_attachment aspect.name.text then noted (aspect_line scope aspect.value) (handling i.at) draft else draft

abbrev pub procedure_aspects_outlined : ScopeView → Identifier → List Aspect → Draft → Draft
procedure_aspects_outlined scope i [] draft = draft
procedure_aspects_outlined scope i (aspect ∷ more) draft =
    procedure_aspects_outlined scope i more (procedure_aspect_outlined scope i aspect draft)

abbrev pub attached : Attachment → Draft → Draft
attached found draft = handling found.at found.line draft

abbrev pub priority_pragma_outlined : ScopeView → Pragma → Draft → Draft
priority_pragma_outlined scope pragma draft =
    noted (pragma_priority (means scope draft.known) pragma.name.text pragma.arguments) giving_priority draft

abbrev pub attachment_outlined : ScopeView → Pragma → Draft → Draft
attachment_outlined scope pragma draft = noted (attachment scope draft pragma.arguments) attached draft

-- a pragma of a protected unit or a task: a priority, a procedure with its line, or nothing
abbrev pub pragma_outlined : ScopeView → Pragma → Draft → Draft
pragma_outlined scope pragma draft =
    if is_priority pragma.name.text then priority_pragma_outlined scope pragma draft
    else (if is_attachment pragma.name.text then attachment_outlined scope pragma draft else draft)

-- Operations and components

-- an operation that is declared with the aspects of a procedure; its identifier isn't declared yet in its own profile (8.2)
abbrev pub declared_outlined : ScopeView → Bool → Option Head → List Aspect → Draft → Draft
declared_outlined scope is_visible None aspects draft = draft
declared_outlined scope is_visible (Some head) aspects draft =
    procedure_aspects_outlined (hiding head.name scope) head.name aspects
    (noted (operation_in draft.known (entered scope) is_visible head) (adding_operation head.name) draft)

abbrev pub operation_outlined : ScopeView → Bool → OperationDeclaration → Draft → Draft
operation_outlined scope is_visible (a_pragma pragma) draft = pragma_outlined scope pragma draft
operation_outlined scope is_visible (a_procedure at i parameters aspects) draft =
    declared_outlined scope is_visible (declared_head (a_procedure at i parameters aspects)) aspects draft
operation_outlined scope is_visible other draft = declared_outlined scope is_visible (declared_head other) [] draft

-- what stands before `private` is visible
abbrev pub operations_outlined : ScopeView → List OperationDeclaration → Draft → Draft
operations_outlined scope [] draft = draft
operations_outlined scope (o ∷ more) draft =
    operations_outlined (with_operation o scope) more (operation_outlined scope true o draft)

-- a component: its subtype, and what it starts at
abbrev pub component_of : (Name → Meaning) → Name → Option RangeConstraint → Option Expression → Option Component
component_of means mark range initial =
    subtype_of means mark range >>= λ part. start_of means part initial >>= λ start. Some (record { range = part; start = start })

-- what stands after it isn't visible
abbrev pub element_outlined : ScopeView → ProtectedElement → Draft → Draft
element_outlined scope (an_operation o) draft = operation_outlined scope false o draft
element_outlined scope (a_component names mark range initial) draft =
    noted (component_of (means (hiding_all names scope) draft.known) mark range initial) (adding_components names) draft

abbrev pub elements_outlined : ScopeView → List ProtectedElement → Draft → Draft
elements_outlined scope [] draft = draft
elements_outlined scope (e ∷ more) draft = elements_outlined (with_element e scope) more (element_outlined scope e draft)

abbrev pub private_outlined : ScopeView → Option (List ProtectedElement) → Draft → Draft
private_outlined scope None draft = draft
private_outlined scope (Some elements) draft = elements_outlined scope elements draft

-- Protected units

-- all parts of a protected unit; the point is within its declaration
abbrev pub parts_outlined : ScopeView → ProtectedUnit → Draft → Draft
parts_outlined scope unit draft =
    private_outlined (with_operations unit.operations (entered scope)) unit.private
    (operations_outlined (entered scope) unit.operations (aspects_outlined scope unit.aspects draft))

-- a single protected unit is an object, a protected type is none
abbrev pub single_outlined : Bool → Bool → ℕ → Identifier → Draft → Draft
single_outlined true is_visible number i draft = draft
single_outlined false is_visible number i draft = adding_object is_visible (sort.Protected number) i draft

abbrev pub protected_unit_outlined : ScopeView → Bool → ProtectedUnit → Draft → Draft
protected_unit_outlined scope is_visible unit draft =
    single_outlined unit.is_type is_visible (length draft.units) unit.name
    (finished (parts_outlined (within_unit unit.name.at (naming_unit unit scope)) unit (started unit.name is_visible draft)))

-- Tasks

abbrev pub task_item_outlined : ScopeView → TaskItem → Draft → Draft
task_item_outlined scope (task_pragma pragma) draft = pragma_outlined scope pragma draft
task_item_outlined scope (task_entry entry) draft = draft

abbrev pub task_items_outlined : ScopeView → List TaskItem → Draft → Draft
task_items_outlined scope [] draft = draft
task_items_outlined scope (item ∷ more) draft = task_items_outlined scope more (task_item_outlined scope item draft)

abbrev pub definition_outlined : ScopeView → Option TaskDefinition → Draft → Draft
definition_outlined scope None draft = draft
definition_outlined scope (Some definition) draft = task_items_outlined scope definition.items draft

abbrev pub task_outlined : ScopeView → TaskUnit → Draft → Draft
task_outlined scope task draft =
    finished_task (definition_outlined (hiding task.name scope) task.definition
    (aspects_outlined (hiding task.name scope) task.aspects (started task.name true draft)))
