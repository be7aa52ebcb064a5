-- What is under way and what waits at each entry of an orderly history (9.5.1, D.7, own).
use Rattle.std.specs.Prelude.{◌≡◌, ◌≤◌, ◌⊎◌, ℕ, Bool, true, false, ◌==◌, ◌&&◌, not, List, [], ◌∷◌, length}
use Rattle.std.specs.List.{filter, list_any}
use Rattle.rv_shape.specs.Shape.{Shape}
use Rattle.rv_shape.specs.Catalogue.{Site, OnProtected, target, shares, is_entry}
use Rattle.rv_event.specs.Past.{under_way, held, waiting, queue}
use Rattle.rv_event.specs.declared.entry.Body.{Body}
use Rattle.rv_event.specs.declared.entry.Entry.{Entry}
use Rattle.rv_history.specs.Fitting.{held_limit}
use Rattle.rv_history.specs.declared.limits.Limits.{Limits}

-- the body is on the object
abbrev pub is_on : ℕ → Body → Bool
is_on object body = body.object == object

-- the body is on the object, and isn't a function's
abbrev pub is_exclusive_on : List Shape → ℕ → Body → Bool
is_exclusive_on shapes object body = is_on object body && not (shares (target shapes body.object body.operation))

-- the bodies on the object all share it, or there is at most one (9.5.1)
abbrev pub IsShared : List Shape → List Body → ℕ → Type 0
IsShared shapes bodies object =
    (list_any (is_exclusive_on shapes object) bodies ≡ false) ⊎ (length (filter (is_on object) bodies) ≤ 1)

-- it is of a protected operation that there is
abbrev pub IsProtected : List Shape → Body → Type 0
IsProtected shapes body = (site : Site) × (target shapes body.object body.operation ≡ OnProtected site)

-- it is of an entry that there is
abbrev pub IsOfEntry : List Shape → Body → Type 0
IsOfEntry shapes body =
    (site : Site) × (target shapes body.object body.operation ≡ OnProtected site) × (is_entry site.operation.kind ≡ true)

abbrev pub Each : (Body → Type 0) → List Body → Type 0
Each P [] = Unit {0}
Each P (body ∷ bodies) = P body × Each P bodies

-- what holds after the entries of a past, under these limits
pub record Orderly (limits : Limits) (shapes : List Shape) (past : List Entry) : Type 0 where
  pub shared : (object : ℕ) → IsShared shapes (under_way shapes past) object
  pub stacks : (actor : ℕ) → length (held shapes actor past) ≤ held_limit
  pub queues : (object : ℕ) → length (queue object past) ≤ limits.queue
  pub bodies : Each (IsProtected shapes) (under_way shapes past)
  pub calls : Each (IsOfEntry shapes) (waiting past)

-- it holds after each entry, with the shapes of the whole history
abbrev pub IsOrderly : Limits → List Shape → List Entry → Type 0
IsOrderly limits shapes [] = Unit {0}
IsOrderly limits shapes (e ∷ past) = Orderly limits shapes (e ∷ past) × IsOrderly limits shapes past
