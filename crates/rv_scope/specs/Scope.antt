-- What is declared at a point of a text (ISO/IEC 8652:2012, 8.1, 8.2, 8.3).
use Rattle.std.specs.Prelude.{◌≡◌, ℕ, ◌==◌, if◌then◌else◌, List, [], ◌∷◌, ◌++◌, Option, Some, None}
use Rattle.std.specs.List.{list_any}
use Rattle.indexmap.specs.IndexMap.{insert_entry}
use Rattle.rv_text.specs.Names.{is_same_name}
use Rattle.rv_tree.specs.Names.{Identifier}
use Rattle.rv_shape.specs.Shape.{Shape}
use Rattle.rv_scope.specs.declared.declared.Declared.{Declared}
use Rattle.rv_scope.specs.declared.declared.Declared.TheVariants as d
use Rattle.rv_scope.specs.declared.declare.Form.{Form}
use Rattle.rv_scope.specs.declared.declare.Form.TheVariants as f
use Rattle.rv_scope.specs.declared.predefined.Library.{Library}
use Rattle.rv_scope.specs.Predefined.{named, is_among}

-- the names that a region declares so far, and what they denote: nothing inside their own declarations (8.1, 8.3)
abbrev pub Region : Type 0
Region = List (List ℕ × Option Declared)

-- what is declared at a point of the text
pub record ScopeView : Type 0 where
  -- the text's unit
  pub unit : List ℕ
  -- the regions around the innermost one, the package's first, then a protected unit's, then an operation's
  pub around : List Region
  -- the innermost region that the point is in
  pub innermost : Region
  -- the protected unit whose declaration or body the point is in, by the place of its identifier
  pub current : Option ℕ
  -- the operation or the task whose body the point is in, by the place of its identifier
  pub body : Option ℕ
  -- the operations before `private` of each protected unit of the text that was declared so far
  pub shown : List Region
  -- the loaded units that a `with` names, by their indexes
  pub units : List ℕ
  -- the library packages that a `with` names, and those that a `use` names
  pub libraries : List Library
  pub used : List Library
  -- the loaded units
  pub shapes : List Shape

-- an identifier is declared in the innermost region
abbrev pub with_meaning : Identifier → Option Declared → ScopeView → ScopeView
with_meaning i meaning scope = record scope { innermost = insert_entry is_same_name scope.innermost i.text meaning }

-- an identifier is declared, and what it denotes
abbrev pub declaring : (ℕ → Declared) → Identifier → ScopeView → ScopeView
declaring meaning i scope = with_meaning i (Some (meaning i.at)) scope

-- what the identifier at a place denotes
abbrev pub meaning_of : Form → ℕ → Declared
meaning_of f.Constant at = d.Constant at
meaning_of f.Variable at = d.Variable at
meaning_of f.Parameter at = d.Parameter at
meaning_of f.Component at = d.Component at
meaning_of (f.ProtectedObject number) at = d.ProtectedObject at number
meaning_of f.Suspension at = d.Suspension at

-- an identifier inside its own declaration, where it denotes nothing and hides what it denoted (8.3)
abbrev pub hiding : Identifier → ScopeView → ScopeView
hiding i scope = with_meaning i None scope

-- the same, of several
abbrev pub declaring_all : Form → List Identifier → ScopeView → ScopeView
declaring_all form [] scope = scope
declaring_all form (i ∷ more) scope = declaring_all form more (declaring (meaning_of form) i scope)

abbrev pub hiding_all : List Identifier → ScopeView → ScopeView
hiding_all [] scope = scope
hiding_all (i ∷ more) scope = hiding_all more (hiding i scope)

-- a new region begins
abbrev pub entered : ScopeView → ScopeView
entered scope = record scope { around = scope.around ++ scope.innermost ∷ []; innermost = [] }

-- the operation or the task that is declared, by its place
abbrev pub completed_place : Option (Option Declared) → Option ℕ
completed_place (Some (Some (d.Operation at of))) = Some at
completed_place (Some (Some (d.Task at))) = Some at
completed_place other = None

-- the region of the body of this identifier begins: it completes what the region around it declares (3.11.1)
abbrev pub in_body : Identifier → ScopeView → ScopeView
in_body i scope = record (entered scope) { body = completed_place (named i.text scope.innermost) }

-- the point is within the declaration or the body of the protected unit whose identifier has this place
abbrev pub within_unit : ℕ → ScopeView → ScopeView
within_unit at scope = record scope { current = Some at }

-- a protected unit with these operations before `private` is declared
abbrev pub showing : Region → ScopeView → ScopeView
showing operations scope = record scope { shown = scope.shown ++ operations ∷ [] }

-- a `with` names a loaded unit
abbrev pub with_unit : ℕ → ScopeView → ScopeView
with_unit index scope =
    if list_any (λ other. other == index) scope.units then scope else record scope { units = scope.units ++ index ∷ [] }

-- a `with` names a library package
abbrev pub with_library : Library → ScopeView → ScopeView
with_library library scope =
    if is_among library scope.libraries then scope else record scope { libraries = scope.libraries ++ library ∷ [] }

-- a `use` names one
abbrev pub using_library : Library → ScopeView → ScopeView
using_library library scope =
    if is_among library scope.used then scope else record scope { used = scope.used ++ library ∷ [] }

-- before the text
abbrev pub empty_scope : List ℕ → List Shape → ScopeView
empty_scope unit shapes = record {
  unit = unit;
  around = [];
  innermost = [];
  current = None;
  body = None;
  shown = [];
  units = [];
  libraries = [];
  used = [];
  shapes = shapes;
}

-- only the innermost region has changed
abbrev pub OnlyDeclares : ScopeView → ScopeView → Type 0
OnlyDeclares old new = new ≡ record old { innermost = new.innermost }
