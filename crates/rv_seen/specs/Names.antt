-- How far a name is seen from a point of a text (ISO/IEC 8652:2012, 4.1.3, 8.3).
use Rattle.std.specs.Prelude.{◌≡◌, ℕ, ◌+◌, Bool, is_some, List, [], ◌∷◌, Option, Some, None}
use Rattle.rv_tree.specs.Names.{Identifier, Name}
use Rattle.rv_scope.specs.declared.declared.Declared.{Declared}
use Rattle.rv_scope.specs.declared.declared.Declared.TheVariants as d
use Rattle.rv_scope.specs.Scope.{ScopeView}
use Rattle.rv_scope.specs.Visible.{direct, selected}
use Rattle.rv_seen.specs.declared.names.Stop.{Stop}
use Rattle.rv_seen.specs.declared.names.Stop.TheVariants.{Unseen, Part, Denotes}

-- what is said of a part of a name, by what it denotes
abbrev pub if_seen : Stop → (Declared → Stop) → Option Declared → Stop
if_seen otherwise seen None = otherwise
if_seen otherwise seen (Some found) = seen found

-- where a name stops whose part of this number stands behind what denotes this
abbrev pub stop_behind : ScopeView → ℕ → Declared → List Identifier → Stop
stop_behind scope number prefix [] = Denotes prefix
stop_behind scope number prefix (i ∷ more) =
    if_seen (Part number prefix) (λ found. stop_behind scope (number + 1) found more) (selected scope prefix i.text)

-- where a name stops: at the first part that isn't seen; one that is seen denotes a declaration
abbrev pub stop_of : ScopeView → Name → Stop
stop_of scope name = if_seen Unseen (λ found. stop_behind scope 1 found name.more) (direct scope name.first.text)

-- a name is seen by itself, or behind what denotes this and a point
abbrev pub meaning_behind : ScopeView → Option Declared → List ℕ → Option Declared
meaning_behind scope None name = direct scope name
meaning_behind scope (Some prefix) name = selected scope prefix name

abbrev pub is_seen : ScopeView → Option Declared → List ℕ → Bool
is_seen scope prefix name = is_some (meaning_behind scope prefix name)

-- the place in the text of the identifier that declares this, where the text does
abbrev pub place_of : Declared → Option ℕ
place_of (d.Subtype at) = Some at
place_of (d.Constant at) = Some at
place_of (d.Variable at) = Some at
place_of (d.Parameter at) = Some at
place_of (d.LoopParameter at) = Some at
place_of (d.Component at) = Some at
place_of (d.Operation at of) = Some at
place_of (d.ProtectedType at number) = Some at
place_of (d.SingleProtected at number) = Some at
place_of (d.ProtectedObject at number) = Some at
place_of (d.ObjectOperation object at of) = Some at
place_of (d.Suspension at) = Some at
place_of (d.Task at) = Some at
place_of other = None
