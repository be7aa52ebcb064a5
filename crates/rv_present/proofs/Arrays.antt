-- The stances, and one write.
use Rattle.std.proofs.Common.{◌≡◌, ◌≢◌, ◌∙◌, ℕ, ◌<◌, List, length, get_or, set, Bool, true, false, ap, arith, subst, sym, refl}
use Rattle.std.specs.Prelude.{◌==◌, if◌then◌else◌}
use Rattle.std.proofs.lemmas.Bool.Decides.{nat_tests}
use Rattle.std.proofs.lemmas.Grind.{get_or-set_at}
use Rattle.std.proofs.lemmas.List.{get_or-set_other, set-get_or}
use Rattle.rv_event.specs.declared.entry.Stance.{Stance}
use Rattle.rv_event.specs.declared.entry.Stance.TheVariants.{Free}
use Rattle.rv_history.proofs.Stances.{same_number}

-- a place is the written one, which there is, or as it was
pub set_at : (ss : List Stance) (a j : ℕ) (s : Stance) → (a ≡ j → j < length ss) → get_or (set ss a s) j Free ≡ (if a == j then s else get_or ss j Free)
set_at ss a j s some = by_test (a == j) refl
  where
    by_test : (t : Bool) → (a == j) ≡ t → get_or (set ss a s) j Free ≡ (if t then s else get_or ss j Free)
    by_test true is =
        let same : j ≡ a = sym (same_number a j is) in
        let there : a < length ss = subst (λ n. n < length ss) same (some (sym same)) in
        get_or-set_at ss a j s Free same there
    by_test false is =
        let other : j ≢ a = grind (arith, nat_tests) in
        get_or-set_other ss a j s Free other

-- one that is free is made free
pub set_same : (ss : List Stance) (a : ℕ) → get_or ss a Free ≡ Free → set ss a Free ≡ ss
set_same ss a is = ap (λ s. set ss a s) (sym is) ∙ set-get_or ss a Free
