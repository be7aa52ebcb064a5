-- A name that stops nowhere denotes what is visible.
use Rattle.std.proofs.Common.{◌≡◌, ℕ, ◌+◌, List, [], ◌∷◌, refl}
use Rattle.std.specs.Prelude.{Option, Some, None}
use Rattle.rv_tree.specs.Names.{Identifier, Name}
use Rattle.rv_scope.specs.declared.declared.Declared.{Declared}
use Rattle.rv_scope.specs.Scope.{ScopeView}
use Rattle.rv_scope.specs.Visible.{direct, selected, selected_all, visible}
use Rattle.rv_seen.specs.declared.names.Stop.{Stop}
use Rattle.rv_seen.specs.declared.names.Stop.TheVariants.{Unseen, Part, Denotes}
use Rattle.rv_seen.specs.Names.{if_seen, stop_behind, stop_of}

-- what stands behind a part that is seen denotes what it does from there
by_part : (scope : ScopeView) (stop : Stop) (next_stop : Declared → Stop) (more : List Identifier) (found : Declared)
    → ((next : Declared) → next_stop next ≡ Denotes found → selected_all scope (Some next) more ≡ Some found)
    → (stop ≡ Denotes found → ⊥) → (next : Option Declared)
    → if_seen stop next_stop next ≡ Denotes found → selected_all scope next more ≡ Some found
by_part scope stop next_stop more found behind never None is = absurd (never is)
by_part scope stop next_stop more found behind never (Some next) is = behind next is

denotes_behind : (scope : ScopeView) (number : ℕ) (prefix : Declared) (more : List Identifier) (found : Declared)
    → stop_behind scope number prefix more ≡ Denotes found → selected_all scope (Some prefix) more ≡ Some found
denotes_behind scope number prefix [] found is = cc
denotes_behind scope number prefix (i ∷ more) found is =
    by_part scope (Part number prefix) (λ next. stop_behind scope (number + 1) next more) more found
    (λ next. denotes_behind scope (number + 1) next more found) (λ never. cc) (selected scope prefix i.text) is

pub denotes_the_visible : (scope : ScopeView) (name : Name) (found : Declared) → stop_of scope name ≡ Denotes found
    → visible scope name ≡ Some found
denotes_the_visible scope name found is =
    by_part scope Unseen (λ next. stop_behind scope 1 next name.more) name.more found
    (λ next. denotes_behind scope 1 next name.more found) (λ never. cc) (direct scope name.first.text) is
