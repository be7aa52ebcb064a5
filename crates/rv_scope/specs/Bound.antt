-- Each name of a text is bound to the one declaration that is visible (ISO/IEC 8652:2012, 8.3, 8.6).
use Rattle.std.specs.Prelude.{◌≡◌, Bool, true, ◌&&◌, List, [], ◌∷◌, Some}
use Rattle.rv_tree.specs.Names.{Name}
use Rattle.rv_tree.specs.Units.{UnitTree}
use Rattle.rv_shape.specs.Shape.{Shape}
use Rattle.rv_scope.specs.declared.declared.Declared.{Declared}
use Rattle.rv_scope.specs.declared.wanted.Wanted.{Wanted}
use Rattle.rv_scope.specs.Scope.{ScopeView}
use Rattle.rv_scope.specs.Wanted.{denoted, is_found, suits, sort}
use Rattle.rv_scope.specs.UnitUses.{unit_uses}

-- each name so far is bound, and this one too
unfoldable pub judged : ScopeView → Wanted → Name → Bool → Bool
judged scope wanted name bound = is_found wanted (denoted wanted scope name) && bound

-- the walk through a unit text finds each name bound
abbrev pub AreBound : List Shape → UnitTree → Type 0
AreBound shapes tree = unit_uses judged shapes tree true ≡ true

-- a name that is used, what it is wanted for, and what is declared there
pub record Used : Type 0 where
  pub scope : ScopeView
  pub wanted : Wanted
  pub name : Name

-- a name that is used, beside those that were before it
abbrev pub listed : ScopeView → Wanted → Name → List Used → List Used
listed scope wanted name used = record { scope = scope; wanted = wanted; name = name } ∷ used

-- the names that a unit text uses
abbrev pub uses : List Shape → UnitTree → List Used
uses shapes tree = unit_uses listed shapes tree []

-- a name is bound to the declaration that it denotes, which is of a sort that is wanted there
pub record IsBound (used : Used) : Type 0 where
  pub to : Declared
  pub denotes : denoted used.wanted used.scope used.name ≡ Some to
  pub is_wanted : suits used.wanted (sort to) ≡ true

-- each of these is bound to the one declaration that is visible
abbrev pub AllBound : List Used → Type 0
AllBound [] = Unit {0}
AllBound (used ∷ more) = IsBound used × AllBound more
