-- What the state of an object says of the actions under way.
use Rattle.std.proofs.Common.{◌≡◌, ℕ, zero, suc, [], ◌∷◌, length, Bool, true, false, refl, sym, ap, arith}
use Rattle.std.specs.Prelude.{drop, replicate}
use Rattle.std.proofs.lemmas.Bool.Decides.{nat_tests}
use Rattle.std.proofs.lemmas.List.{length-replicate}
use Rattle.rv_object.specs.declared.action.Action.{Action}
use Rattle.rv_object.specs.declared.action.Action.TheVariants.{Shared, Exclusive}
use Rattle.rv_object.specs.declared.action.State.{State}
use Rattle.rv_object.specs.declared.action.State.TheVariants.{Free, Readers, Writer, Settling}
use Rattle.rv_object.specs.Actions.{IsCounted, actions_of, excludes, is_under_way, same_action}

pub excludes-shared : (n : ℕ) → excludes (replicate n Shared) Shared ≡ false
excludes-shared zero = refl
excludes-shared (suc n) = excludes-shared n

-- where an exclusive action may start, nothing is under way
pub actions_of-free : (state : State) (actor : ℕ) → IsCounted state → excludes (actions_of state) (Exclusive actor) ≡ false → actions_of state ≡ []
actions_of-free Free actor counted free = refl
actions_of-free (Readers zero) actor counted free = refl
actions_of-free (Readers (suc n)) actor counted free = absurd (cc)
actions_of-free (Writer other) actor counted free = absurd (cc)
actions_of-free Settling actor counted free = refl

same_action-is : (a b : Action) → same_action a b ≡ true → a ≡ b
same_action-is Shared Shared same = refl
same_action-is Shared (Exclusive actor) same = absurd (cc)
same_action-is (Exclusive actor) Shared same = absurd (cc)
same_action-is (Exclusive actor) (Exclusive other) same = ap Exclusive (grind (arith, nat_tests))

only_one : (a b : Action) → is_under_way a (b ∷ []) ≡ true → a ≡ b
only_one a b some = by_test (same_action a b) refl
  where
    by_test : (t : Bool) → same_action a b ≡ t → a ≡ b
    by_test true same = same_action-is a b same
    by_test false other = absurd (grind (arith, other, some))

never : (actor n : ℕ) → is_under_way (Exclusive actor) (replicate n Shared) ≡ true → ⊥
never actor zero e = cc
never actor (suc n) e = never actor n e

-- what is under way on an orderly object is alike
pub actions_of-alike : (state : State) (action : Action) → is_under_way action (actions_of state) ≡ true → actions_of state ≡ replicate (length (actions_of state)) action
actions_of-alike Free action some = refl
actions_of-alike (Readers n) Shared some = ap (λ k. replicate k Shared) (sym (length-replicate n Shared))
actions_of-alike (Readers zero) (Exclusive actor) some = refl
actions_of-alike (Readers (suc n)) (Exclusive actor) some = absurd (never actor n some)
actions_of-alike (Writer other) Shared some = absurd (cc)
actions_of-alike (Writer other) (Exclusive actor) some = ap (λ a. a ∷ []) (sym (only_one (Exclusive actor) (Exclusive other) some))
actions_of-alike Settling action some = refl

-- and the newest is such an action
pub actions_of-newest : (state : State) (action : Action) → is_under_way action (actions_of state) ≡ true → actions_of state ≡ action ∷ drop 1 (actions_of state)
actions_of-newest Free action some = absurd (cc)
actions_of-newest (Readers zero) action some = absurd (cc)
actions_of-newest (Readers (suc n)) Shared some = refl
actions_of-newest (Readers (suc n)) (Exclusive actor) some = absurd (never actor n some)
actions_of-newest (Writer other) action some = ap (λ a. a ∷ []) (sym (only_one action (Exclusive other) some))
actions_of-newest Settling action some = absurd (cc)
