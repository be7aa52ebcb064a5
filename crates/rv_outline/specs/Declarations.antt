-- What the declarations of a package, and the bodies of its entries, add to an outline (ISO/IEC 8652:2012, 3.2.2, 3.3.1,
-- 7.1, 7.2, 9.5.2), in the order of the text.
use Rattle.std.specs.Prelude.{ℕ, Bool, true, false, List, [], ◌∷◌, Option, Some, None, length}
use Rattle.rv_tree.specs.Declarations.{ProtectedUnit, Declaration, package_pragma, a_subtype, a_protected_unit, a_task, a_variable, a_constant}
use Rattle.rv_tree.specs.Bodies.{OperationBody, function_body, procedure_body, entry_body}
use Rattle.rv_tree.specs.Units.{BodyItem, body_declaration, body_protected, body_task, UnitTree}
use Rattle.rv_shape.specs.declared.kind.Barrier.{Barrier}
use Rattle.rv_shape.specs.declared.kind.Kind.TheVariants.{Entry}
use Rattle.rv_shape.specs.Shape.{Shape}
use Rattle.rv_shape.specs.Catalogue.{all_objects}
use Rattle.rv_scope.specs.declared.declared.Declared.{Declared}
use Rattle.rv_scope.specs.declared.declared.Declared.TheVariants as d
use Rattle.rv_scope.specs.declared.declared.OperationKind.TheVariants as kind
use Rattle.rv_scope.specs.declared.wanted.Wanted.TheVariants as w
use Rattle.rv_scope.specs.Scope.{ScopeView, hiding, hiding_all, in_body}
use Rattle.rv_scope.specs.Visible.{visible}
use Rattle.rv_scope.specs.Wanted.{denoted}
use Rattle.rv_scope.specs.ExpressionUses.{simple}
use Rattle.rv_scope.specs.DeclarationUses.{with_parameters, with_declaration, with_declarations}
use Rattle.rv_scope.specs.UnitUses.{in_protected_unit, unit_of_body, with_body_item, package_scope, protected_units}
use Rattle.rv_outline.specs.declared.outline.ObjectType.{ObjectType}
use Rattle.rv_outline.specs.declared.outline.ObjectType.TheVariants as sort
use Rattle.rv_scope.specs.Statics.{means}
use Rattle.rv_outline.specs.Drafts.{Draft, empty_draft, noted, knowing_found, adding_objects, having_kind}
use Rattle.rv_scope.specs.Subtypes.{subtype_known, constant_known}
use Rattle.rv_outline.specs.Barriers.{barrier_of}
use Rattle.rv_outline.specs.ProtectedUnits.{protected_unit_outlined, task_outlined}

-- what the objects of a mark are: of a protected type, else suspension objects
abbrev pub object_type : Option Declared → ObjectType
object_type (Some (d.ProtectedType at number)) = sort.Protected number
object_type other = sort.Suspension

-- a declaration of the package; what the package body declares isn't visible to other units
abbrev pub declaration_outlined : ScopeView → Bool → Declaration → Draft → Draft
declaration_outlined scope is_visible (package_pragma pragma) draft = draft
declaration_outlined scope is_visible (a_subtype at i mark range) draft =
    knowing_found (subtype_known (means (hiding i scope) draft.known) mark range) (i ∷ []) draft
declaration_outlined scope is_visible (a_protected_unit unit) draft = protected_unit_outlined scope is_visible unit draft
declaration_outlined scope is_visible (a_task task) draft = task_outlined scope task draft
declaration_outlined scope is_visible (a_variable names mark) draft =
    adding_objects is_visible (object_type (visible (hiding_all names scope) mark)) names draft
declaration_outlined scope is_visible (a_constant names mark initial) draft =
    knowing_found (constant_known (means (hiding_all names scope) draft.known) mark initial) names draft

abbrev pub declarations_outlined : ScopeView → List Declaration → Draft → Draft
declarations_outlined scope [] draft = draft
declarations_outlined scope (one ∷ more) draft =
    declarations_outlined (with_declaration one scope) more (declaration_outlined scope true one draft)

-- Barriers (9.5.2)

-- the entry of a place has a barrier
abbrev pub barring : ℕ → Barrier → Draft → Draft
barring at barrier draft = having_kind at (Entry barrier) draft

-- the entry that a body is of has the barrier that was found
abbrev pub entry_barred : Option Declared → Option Barrier → Draft → Draft
entry_barred (Some (d.Operation at kind.Entry)) found draft = noted found (barring at) draft
entry_barred other found draft = draft

-- the body of an operation: that of an entry has its barrier, over its parameters
abbrev pub operation_body_outlined : ScopeView → OperationBody → Draft → Draft
operation_body_outlined scope (function_body at i parameters mark block) draft = draft
operation_body_outlined scope (procedure_body at i parameters block) draft = draft
operation_body_outlined scope (entry_body at i parameters condition block) draft =
    entry_barred (denoted w.EntryBody scope (simple i))
    (barrier_of (with_parameters parameters (in_body i scope)) draft.known condition) draft

abbrev pub operation_bodies_outlined : ScopeView → List OperationBody → Draft → Draft
operation_bodies_outlined scope [] draft = draft
operation_bodies_outlined scope (body ∷ more) draft =
    operation_bodies_outlined scope more (operation_body_outlined scope body draft)

-- the bodies of the operations of a protected unit
abbrev pub bodies_outlined : ScopeView → List OperationBody → Option (ℕ × ProtectedUnit) → Draft → Draft
bodies_outlined scope bodies None draft = draft
bodies_outlined scope bodies (Some numbered) draft = operation_bodies_outlined (in_protected_unit numbered.1 scope) bodies draft

-- The package body (7.2)

abbrev pub body_item_outlined : List ProtectedUnit → ScopeView → BodyItem → Draft → Draft
body_item_outlined units scope (body_declaration one) draft = declaration_outlined scope false one draft
body_item_outlined units scope (body_protected body) draft =
    bodies_outlined scope body.operations (unit_of_body units scope body.name) draft
body_item_outlined units scope (body_task body) draft = draft

abbrev pub body_items_outlined : List ProtectedUnit → ScopeView → List BodyItem → Draft → Draft
body_items_outlined units scope [] draft = draft
body_items_outlined units scope (one ∷ more) draft =
    body_items_outlined units (with_body_item one scope) more (body_item_outlined units scope one draft)

-- what the package specification declares, over the loaded units
abbrev pub specification_drafted : List Shape → UnitTree → Draft
specification_drafted shapes tree =
    declarations_outlined (package_scope shapes tree) tree.specification.declarations (empty_draft (length (all_objects shapes)))

-- the point behind it, where the package body begins
abbrev pub body_scope : List Shape → UnitTree → ScopeView
body_scope shapes tree = with_declarations tree.specification.declarations (package_scope shapes tree)

-- all that a text declares
abbrev pub drafted : List Shape → UnitTree → Draft
drafted shapes tree =
    body_items_outlined (protected_units tree) (body_scope shapes tree) tree.body.items (specification_drafted shapes tree)
