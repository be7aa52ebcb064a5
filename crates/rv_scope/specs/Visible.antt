-- Which declaration a name denotes (ISO/IEC 8652:2012, 4.1.3, 8.2, 8.3, 8.4, 10.1.6).
use Rattle.std.specs.Prelude.{ℕ, ◌+◌, ◌==◌, Bool, false, if◌then◌else◌, List, [], ◌∷◌, Option, Some, None, slice_get, length}
use Rattle.std.specs.List.{list_any}
use Rattle.rv_text.specs.Names.{is_same_name}
use Rattle.rv_tree.specs.Names.{Identifier, Name}
use Rattle.rv_shape.specs.Shape.{Shape}
use Rattle.rv_shape.specs.Objects.{OperationShape}
use Rattle.rv_shape.specs.declared.kind.Kind.{Kind}
use Rattle.rv_shape.specs.declared.kind.Kind.TheVariants as k
use Rattle.rv_shape.specs.declared.object.Object.{Object}
use Rattle.rv_shape.specs.declared.object.Object.TheVariants as o
use Rattle.rv_shape.specs.Fits.{object_name}
use Rattle.rv_shape.specs.Catalogue.{first_of, operations_of, is_seen}
use Rattle.rv_static.specs.Static.{◌>>=◌}
use Rattle.rv_scope.specs.declared.declared.Declared.{Declared}
use Rattle.rv_scope.specs.declared.declared.Declared.TheVariants as d
use Rattle.rv_scope.specs.declared.declared.OperationKind.{OperationKind}
use Rattle.rv_scope.specs.declared.declared.OperationKind.TheVariants as kind
use Rattle.rv_scope.specs.declared.predefined.Library.{Library}
use Rattle.rv_scope.specs.declared.predefined.Library.TheVariants as l
use Rattle.rv_scope.specs.Predefined.{named, is_among, root_libraries, child_libraries, declarations_of}
use Rattle.rv_scope.specs.Scope.{Region, ScopeView}

-- a declaration that is found, and isn't hidden by itself
abbrev pub flat : Option (Option Declared) → Option Declared
flat None = None
flat (Some meaning) = meaning

-- what a name denotes in the last of these regions that declares it, which hides those around it, else what was found before
abbrev pub found_in : List ℕ → Option (Option Declared) → List Region → Option (Option Declared)
found_in name found [] = found
found_in name found (region ∷ inner) = found_in name (first_of (named name region) found) inner

-- what a name denotes in the innermost region that declares it
abbrev pub innermost_meaning : ScopeView → List ℕ → Option (Option Declared)
innermost_meaning scope name = first_of (named name scope.innermost) (found_in name None scope.around)

-- the region of a number: the package's is 0, and that of the protected unit around the point 1
abbrev pub region_at : ScopeView → ℕ → Option Region
region_at scope number =
    first_of (slice_get scope.around number) (if number == length scope.around then Some scope.innermost else None)

-- what a name denotes in the region of a number
abbrev pub in_region : ℕ → ScopeView → List ℕ → Option Declared
in_region number scope name = region_at scope number >>= λ region. flat (named name region)

-- the index of the first of these that has the name, the first index being this one
abbrev pub index_from : {X : Type 0} → (X → List ℕ) → List ℕ → ℕ → List X → Option ℕ
index_from name_of name index [] = None
index_from name_of name index (x ∷ xs) =
    if is_same_name name (name_of x) then Some index else index_from name_of name (index + 1) xs

-- Library packages (10.1.6)

-- a library package that a `with` names; Standard needs none
abbrev pub with_named : ScopeView → Library → Option Declared
with_named scope l.Standard = Some (d.LibraryPackage l.Standard)
with_named scope library = if is_among library scope.libraries then Some (d.LibraryPackage library) else None

-- what a package declares: its own declarations, and the child packages that a `with` names
abbrev pub library_item : ScopeView → Library → List ℕ → Option Declared
library_item scope library name =
    first_of (named name (declarations_of library) >>= λ item. Some (d.Predefined item))
    (named name (child_libraries library) >>= λ child. with_named scope child)

-- what the packages that a `use` names declare (8.4)
abbrev pub used_item : ScopeView → List ℕ → List Library → Option Declared
used_item scope name [] = None
used_item scope name (library ∷ more) = first_of (library_item scope library name) (used_item scope name more)

-- Units

-- the text's own unit
abbrev pub own_unit : ScopeView → List ℕ → Option (Option Declared)
own_unit scope name = if is_same_name name scope.unit then Some (Some d.OwnUnit) else None

-- a loaded unit that a `with` names
abbrev pub with_named_unit : ScopeView → List ℕ → Option Declared
with_named_unit scope name =
    index_from (λ shape. shape.name) name 0 scope.shapes >>= λ index.
    if list_any (λ other. other == index) scope.units then Some (d.Unit index) else None

-- a library package that stands in no other, if a `with` names it
abbrev pub root_library : ScopeView → List ℕ → Option Declared
root_library scope name = named name root_libraries >>= λ library. with_named scope library

-- what is visible without a `use`: Standard's declarations, and library units that a `with` names
abbrev pub without_use : ScopeView → List ℕ → Option Declared
without_use scope name =
    first_of (named name (declarations_of l.Standard) >>= λ item. Some (d.Predefined item))
    (first_of (with_named_unit scope name) (root_library scope name))

-- what no declaration of the text hides: this, and what `use` makes visible, which it hides (8.4)
abbrev pub from_outside : ScopeView → List ℕ → Option Declared
from_outside scope name = first_of (without_use scope name) (used_item scope name scope.used)

-- what a simple name denotes: the innermost declaration, then the text's unit, then what comes from outside
abbrev pub direct : ScopeView → List ℕ → Option Declared
direct scope name =
    flat (first_of (innermost_meaning scope name) (first_of (own_unit scope name) (Some (from_outside scope name))))

-- what a simple name of a context clause denotes: the scope of a `use` there begins behind the clause (8.4, 10.1.6)
abbrev pub direct_in_context : ScopeView → List ℕ → Option Declared
direct_in_context scope name = flat (first_of (own_unit scope name) (Some (without_use scope name)))

-- Behind a point (4.1.3)

-- the kind of an operation
abbrev pub kind_of : Kind → OperationKind
kind_of (k.Function result) = kind.Function
kind_of k.Procedure = kind.Procedure
kind_of (k.Entry barrier) = kind.Entry
kind_of (k.Handler line) = kind.Procedure

-- an object of a unit, by the indexes of the two
abbrev pub object_at : ℕ → ℕ → Object → Declared
object_at unit index (o.Protected object) = d.UnitObject unit index
object_at unit index (o.Suspension object) = d.UnitSuspension unit index

-- an object of a loaded unit, but none that only the unit's body declares (7.2)
abbrev pub unit_object : ScopeView → ℕ → List ℕ → Option Declared
unit_object scope unit name =
    slice_get scope.shapes unit >>= λ shape.
    index_from object_name name 0 shape.objects >>= λ index.
    slice_get shape.objects index >>= λ object.
    if is_seen object then Some (object_at unit index object) else None

-- an operation before `private` of the object of these indexes
abbrev pub shown_operation : ℕ → ℕ → List OperationShape → List ℕ → Option Declared
shown_operation unit object operations name =
    index_from (λ operation. operation.name) name 0 operations >>= λ index.
    slice_get operations index >>= λ operation.
    if operation.is_visible then Some (d.UnitOperation unit object index (kind_of operation.kind)) else None

-- the same, of an object of a loaded unit
abbrev pub unit_operation : ScopeView → ℕ → ℕ → List ℕ → Option Declared
unit_operation scope unit object name =
    slice_get scope.shapes unit >>= λ shape. slice_get shape.objects object >>= λ found.
    shown_operation unit object (operations_of found) name

-- an operation as one of an object of this place, seen from outside (9.5)
abbrev pub of_object : ℕ → Declared → Option Declared
of_object object (d.Operation at of) = Some (d.ObjectOperation object at of)
of_object object other = None

-- an operation before `private` of an object of the text
abbrev pub outer_operation : ScopeView → ℕ → ℕ → List ℕ → Option Declared
outer_operation scope object number name =
    slice_get scope.shown number >>= λ operations. flat (named name operations) >>= λ operation. of_object object operation

-- this place is that one, if there is one
abbrev pub is_place : Option ℕ → ℕ → Bool
is_place None at = false
is_place (Some place) at = place == at

-- the protected unit of this place is the one whose declaration or body the point is in
abbrev pub is_current : ScopeView → ℕ → Bool
is_current scope at = is_place scope.current at

-- the operation or the task of this place is the one whose body the point is in
abbrev pub is_around : ScopeView → ℕ → Bool
is_around scope at = is_place scope.body at

-- what the body of the operation or the task of this place declares in the region of a number, within that body
abbrev pub in_own_body : ScopeView → ℕ → ℕ → List ℕ → Option Declared
in_own_body scope at number name = if is_around scope at then in_region number scope name else None

-- what a name behind a point denotes; an operation's region follows those of the package and its protected unit, a task's
-- that of the package
abbrev pub selected : ScopeView → Declared → List ℕ → Option Declared
selected scope d.OwnUnit name = in_region 0 scope name
selected scope (d.Unit unit) name = unit_object scope unit name
selected scope (d.UnitObject unit object) name = unit_operation scope unit object name
selected scope (d.LibraryPackage library) name = library_item scope library name
selected scope (d.ProtectedType at number) name = if is_current scope at then in_region 1 scope name else None
selected scope (d.SingleProtected at number) name =
    if is_current scope at then in_region 1 scope name else outer_operation scope at number name
selected scope (d.ProtectedObject at number) name = outer_operation scope at number name
selected scope (d.Operation at of) name = in_own_body scope at 2 name
selected scope (d.Task at) name = in_own_body scope at 1 name
selected scope other name = None

-- the same, for all that stands behind points
abbrev pub selected_all : ScopeView → Option Declared → List Identifier → Option Declared
selected_all scope None more = None
selected_all scope (Some found) [] = Some found
selected_all scope (Some found) (i ∷ more) = selected_all scope (selected scope found i.text) more

-- the declaration that a name denotes, simple or expanded
abbrev pub visible : ScopeView → Name → Option Declared
visible scope name = selected_all scope (direct scope name.first.text) name.more

-- the same in a context clause
abbrev pub visible_in_context : ScopeView → Name → Option Declared
visible_in_context scope name = selected_all scope (direct_in_context scope name.first.text) name.more

-- Library units, whether a `with` names them or not (10.1.1)

-- a child package, if the package before it was found
abbrev pub child_library : Option Library → List Identifier → Option Library
child_library None more = None
child_library (Some library) [] = Some library
child_library (Some library) (i ∷ more) = child_library (named i.text (child_libraries library)) more

-- the library package of a name
abbrev pub library_named : Name → Option Library
library_named name = child_library (named name.first.text root_libraries) name.more

-- what a simple name gives; an expanded one gives nothing
abbrev pub if_simple : {X : Type 0} → Option X → List Identifier → Option X
if_simple found [] = found
if_simple found (i ∷ more) = None

-- the loaded unit of a name
abbrev pub unit_named : List Shape → Name → Option ℕ
unit_named shapes name = if_simple (index_from (λ shape. shape.name) name.first.text 0 shapes) name.more

-- the library unit that a `with` names
abbrev pub library_unit : ScopeView → Name → Option Declared
library_unit scope name =
    first_of (library_named name >>= λ library. Some (d.LibraryPackage library))
    (unit_named scope.shapes name >>= λ index. Some (d.Unit index))
