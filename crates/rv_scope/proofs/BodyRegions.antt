-- In the body of a protected unit nothing changes around its region.
use Rattle.std.proofs.Common.{refl, List, [], ◌∷◌, Option, Some, None}
use Rattle.rv_tree.specs.Names.{Identifier}
use Rattle.rv_tree.specs.Declarations.{OperationDeclaration, a_pragma, a_function, a_procedure, an_entry, ProtectedElement, an_operation, a_component, ProtectedUnit}
use Rattle.rv_scope.specs.declared.declare.Form.{Form}
use Rattle.rv_scope.specs.declared.declare.Form.TheVariants as f
use Rattle.rv_scope.specs.Scope.{ScopeView, OnlyDeclares, entered, declaring, declaring_all, hiding, hiding_all, meaning_of}
use Rattle.rv_scope.specs.DeclarationUses.{with_operation, with_operations, with_element, with_elements, with_private, with_members}
use Rattle.rv_scope.proofs.Scopes.{declares_on}

declared : (form : Form) (names : List Identifier) (s : ScopeView) → OnlyDeclares s (declaring_all form names s)
declared form [] s = refl
declared form (i ∷ more) s =
    let next : ScopeView = declaring (meaning_of form) i s in
    declares_on s next (declaring_all form more next) refl (declared form more next)

hidden : (names : List Identifier) (s : ScopeView) → OnlyDeclares s (hiding_all names s)
hidden [] s = refl
hidden (i ∷ more) s = declares_on s (hiding i s) (hiding_all more (hiding i s)) refl (hidden more (hiding i s))

operation : (o : OperationDeclaration) (s : ScopeView) → OnlyDeclares s (with_operation o s)
operation (a_pragma pragma) s = refl
operation (a_function at i parameters mark) s = refl
operation (a_procedure at i parameters aspects) s = refl
operation (an_entry entry) s = refl

operations : (list : List OperationDeclaration) (s : ScopeView) → OnlyDeclares s (with_operations list s)
operations [] s = refl
operations (o ∷ more) s =
    declares_on s (with_operation o s) (with_operations more (with_operation o s)) (operation o s) (operations more (with_operation o s))

element : (e : ProtectedElement) (s : ScopeView) → OnlyDeclares s (with_element e s)
element (an_operation o) s = operation o s
element (a_component names mark range start) s =
    declares_on s (hiding_all names s) (declaring_all f.Component names (hiding_all names s)) (hidden names s) (declared f.Component names (hiding_all names s))

elements : (list : List ProtectedElement) (s : ScopeView) → OnlyDeclares s (with_elements list s)
elements [] s = refl
elements (e ∷ more) s =
    declares_on s (with_element e s) (with_elements more (with_element e s)) (element e s) (elements more (with_element e s))

private_part : (part : Option (List ProtectedElement)) (s : ScopeView) → OnlyDeclares s (with_private part s)
private_part None s = refl
private_part (Some list) s = elements list s

pub members : (unit : ProtectedUnit) (s : ScopeView) → OnlyDeclares (entered s) (with_members unit s)
members unit s =
    declares_on (entered s) (with_operations unit.operations (entered s)) (with_members unit s) (operations unit.operations (entered s))
    (private_part unit.private (with_operations unit.operations (entered s)))
