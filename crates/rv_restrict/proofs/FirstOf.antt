-- The first of a list of violations is one of them, and none of them precedes it.
use Rattle.std.specs.Prelude.{ℕ, ◌==◌, nat_lt, if◌then◌else◌}
use Rattle.std.proofs.Common.{◌≡◌, refl, sym, subst, inl, inr, arith, Bool, true, false, List, [], ◌∷◌, Option, Some, None}
use Rattle.rv_restrict.specs.declared.violation.Violation.{Violation}
use Rattle.rv_restrict.specs.Found.{precedes, earlier, first_of, row_number}
use Rattle.rv_restrict.specs.Conforms.{NonePrecedes, IsFirst}

chosen : (b : Bool) (v w : Violation) → (if b then Some w else Some v) ≡ None → ⊥
chosen true v w e = cc
chosen false v w e = cc

never_none : (v : Violation) (o : Option Violation) → earlier v o ≡ None → ⊥
never_none v None e = cc
never_none v (Some w) e = chosen (precedes w v) v w e

pub first_none : (vs : List Violation) → first_of vs ≡ None → vs ≡ []
first_none [] e = refl
first_none (v ∷ vs) e = absurd (never_none v (first_of vs) e)

not_itself : (v : Violation) → precedes v v ≡ false
not_itself v = grind arith

abbrev before : ℕ → ℕ → ℕ → ℕ → Bool
before p r q s = if p == q then nat_lt r s else nat_lt p q

not_both_at : (p r q s : ℕ) → before p r q s ≡ true → before q s p r ≡ false
not_both_at p r q s e = grind arith

still_not_at : (p r q s m t : ℕ) → before p r q s ≡ false → before q s m t ≡ false → before p r m t ≡ false
still_not_at p r q s m t e f = grind arith

not_both : (u w : Violation) → precedes u w ≡ true → precedes w u ≡ false
not_both u w e = not_both_at u.place (row_number u.restriction) w.place (row_number w.restriction) e

still_not : (x u v : Violation) → precedes x u ≡ false → precedes u v ≡ false → precedes x v ≡ false
still_not x u v e f = still_not_at x.place (row_number x.restriction) u.place (row_number u.restriction) v.place (row_number v.restriction) e f

none_still : (u v : Violation) (vs : List Violation) → NonePrecedes u vs → precedes u v ≡ false → NonePrecedes v vs
none_still u v [] h e = tt
none_still u v (x ∷ vs) h e = (still_not x u v h.0 e, none_still u v vs h.1 e)

of_two : (b : Bool) (u w v : Violation) (rest : List Violation) → precedes u w ≡ b → IsFirst u rest → (if b then Some u else Some w) ≡ Some v → IsFirst v (w ∷ rest)
of_two true u w v rest e h g = let same : u ≡ v = cc in subst (λ x. IsFirst x (w ∷ rest)) same (record { is_one = inr h.is_one; none_precedes = (not_both u w e, h.none_precedes) })
of_two false u w v rest e h g = let same : w ≡ v = cc in subst (λ x. IsFirst x (w ∷ rest)) same (record { is_one = inl refl; none_precedes = (not_itself w, none_still u w rest h.none_precedes e) })

pub first_is : (vs : List Violation) (v : Violation) → first_of vs ≡ Some v → IsFirst v vs
first_is [] v e = absurd (cc)
first_is (w ∷ rest) v e = elim (first_of rest) as (λ o. first_of rest ≡ o → earlier w o ≡ Some v → IsFirst v (w ∷ rest)) [
  | None ↦ λ n g. let same : w ≡ v = cc in subst (λ x. IsFirst x (w ∷ rest)) same (record { is_one = inl refl; none_precedes = (not_itself w, subst (λ vs. NonePrecedes w vs) (sym (first_none rest n)) tt) })
  | Some u ↦ λ s g. of_two (precedes u w) u w v rest refl (first_is rest u s) g
] refl e
