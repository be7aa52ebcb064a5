-- Values that don't fit are too few or too many, or the first that is outside its range can be named.
use Rattle.std.proofs.Common.{◌≡◌, Bool, true, false, List, [], ◌∷◌, length, ℤ, cond, Some, None, Option, refl, sym, ap, ◌∙◌, arith}
use Rattle.std.specs.Prelude.{◌==◌, ◌&&◌, not, if◌then◌else◌, option_map}
use Rattle.std.proofs.lemmas.Bool.{and_parts, false≢true}
use Rattle.std.proofs.lemmas.Bool.Decides.{nat_tests}
use Rattle.rv_history.specs.Fitting.{all_fit}
use Rattle.rv_shape.specs.Kinds.{holds}
use Rattle.rv_shape.specs.declared.kind.Range.{Range}
use Rattle.rv_misfit.specs.Misfits.{first_outside, values_misfit}
use Rattle.rv_misfit.specs.declared.misfit.Called.{Called}
use Rattle.rv_misfit.specs.declared.misfit.Misfit.{Misfit}
use Rattle.rv_misfit.specs.declared.misfit.Misfit.TheVariants.{Count, Outside}

-- where all fit there are as many as there are ranges
fit_length : (rs : List Range) (vs : List ℤ) → all_fit rs vs ≡ true → length vs ≡ length rs
fit_length [] [] e = refl
fit_length [] (v ∷ vs) e = absurd (false≢true e)
fit_length (r ∷ rs) [] e = absurd (false≢true e)
fit_length (r ∷ rs) (v ∷ vs) e =
    let rest = fit_length rs vs (and_parts (holds r v) (all_fit rs vs) e).1 in
    omega (arith, rest)

-- none is outside
fit_none : (rs : List Range) (vs : List ℤ) → all_fit rs vs ≡ true → first_outside rs vs ≡ None
fit_none [] [] e = refl
fit_none [] (v ∷ vs) e = refl
fit_none (r ∷ rs) [] e = refl
fit_none (r ∷ rs) (v ∷ vs) e =
    let parts = and_parts (holds r v) (all_fit rs vs) e in
    let here = parts.0 in
    (λ i. cond (not (here i)) (Some (r, v)) (first_outside rs vs)) ∙ fit_none rs vs parts.1

-- so they are where none is, and there are as many
pub none_fit : (rs : List Range) (vs : List ℤ) → length vs ≡ length rs → first_outside rs vs ≡ None → all_fit rs vs ≡ true
none_fit [] [] n e = refl
none_fit [] (v ∷ vs) n e = absurd (omega (arith, n))
none_fit (r ∷ rs) [] n e = absurd (omega (arith, n))
none_fit (r ∷ rs) (v ∷ vs) n e = by_test (holds r v) e (none_fit rs vs (omega (arith, n)))
  where
    by_test : (b : Bool) → cond (not b) (Some (r, v)) (first_outside rs vs) ≡ None → (first_outside rs vs ≡ None → all_fit rs vs ≡ true) → (b && all_fit rs vs) ≡ true
    by_test true f rest = rest f
    by_test false f rest = absurd (cc)

pub of_another_count : (called : Called) (rs : List Range) (vs : List ℤ) → (length vs == length rs) ≡ false → values_misfit called rs vs ≡ Some (Count called (length vs) (length rs))
of_another_count called rs vs other = by_test (all_fit rs vs) refl
  where
    by_test : (b : Bool) → all_fit rs vs ≡ b →
        (if b then None else if length vs == length rs then option_map (λ pair. Outside called pair.1 pair.0) (first_outside rs vs) else Some (Count called (length vs) (length rs)))
        ≡ Some (Count called (length vs) (length rs))
    by_test true e = let many = fit_length rs vs e in absurd (grind (arith, nat_tests))
    by_test false e = ap (λ t. if t then option_map (λ pair. Outside called pair.1 pair.0) (first_outside rs vs) else Some (Count called (length vs) (length rs))) other

pub of_the_count : (called : Called) (rs : List Range) (vs : List ℤ) → (length vs == length rs) ≡ true → values_misfit called rs vs ≡ option_map (λ pair. Outside called pair.1 pair.0) (first_outside rs vs)
of_the_count called rs vs same = by_test (all_fit rs vs) refl
  where
    by_test : (b : Bool) → all_fit rs vs ≡ b →
        (if b then None else if length vs == length rs then option_map (λ pair. Outside called pair.1 pair.0) (first_outside rs vs) else Some (Count called (length vs) (length rs)))
        ≡ option_map (λ pair. Outside called pair.1 pair.0) (first_outside rs vs)
    by_test true e = sym (ap (option_map (λ pair. Outside called pair.1 pair.0)) (fit_none rs vs e))
    by_test false e = ap (λ t. if t then option_map (λ pair. Outside called pair.1 pair.0) (first_outside rs vs) else Some (Count called (length vs) (length rs))) same

-- nothing is told of values that fit, and of no others
pub told_misfit : (called : Called) (rs : List Range) (vs : List ℤ) (misfit : Misfit) → values_misfit called rs vs ≡ Some misfit → all_fit rs vs ≡ false
told_misfit called rs vs misfit e = by_test (all_fit rs vs) e
  where
    by_test : (b : Bool) →
        (if b then None else if length vs == length rs then option_map (λ pair. Outside called pair.1 pair.0) (first_outside rs vs) else Some (Count called (length vs) (length rs)))
        ≡ Some misfit → b ≡ false
    by_test true f = absurd (cc)
    by_test false f = refl

pub untold_misfit : (called : Called) (rs : List Range) (vs : List ℤ) → values_misfit called rs vs ≡ None → all_fit rs vs ≡ true
untold_misfit called rs vs e = by_test (all_fit rs vs) refl e
  where
    no_pair : (o : Option (Range × ℤ)) → option_map (λ pair. Outside called pair.1 pair.0) o ≡ None → o ≡ None
    no_pair None f = refl
    no_pair (Some pair) f = absurd (cc)

    by_count : (b : Bool) → (length vs == length rs) ≡ b → (if b then option_map (λ pair. Outside called pair.1 pair.0) (first_outside rs vs) else Some (Count called (length vs) (length rs))) ≡ None →
        all_fit rs vs ≡ true
    by_count true n f = none_fit rs vs (grind (arith, nat_tests)) (no_pair (first_outside rs vs) f)
    by_count false n f = absurd (cc)

    by_test : (b : Bool) → all_fit rs vs ≡ b →
        (if b then None else if length vs == length rs then option_map (λ pair. Outside called pair.1 pair.0) (first_outside rs vs) else Some (Count called (length vs) (length rs)))
        ≡ None → all_fit rs vs ≡ true
    by_test true n f = n
    by_test false n f = by_count (length vs == length rs) refl f
