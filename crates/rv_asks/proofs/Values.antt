-- Values of ranges.
use Rattle.std.proofs.Common.{◌≡◌, ℕ, zero, suc, ◌<◌, ℤ, pos, negsuc, Bool, true, false, cond, List, [], ◌∷◌, length, map, Option, Some, Result, Ok, Err, refl, sym, ap, ◌∙◌, arith}
use Rattle.std.specs.Prelude.{nat_le, int_le, slice_get, slice_set, slice_index_or}
use Rattle.std.proofs.lemmas.Bool.Decides.{nat_tests}
use Rattle.rv_event.specs.declared.entry.Exception.TheVariants.{ConstraintError}
use Rattle.rv_shape.specs.declared.kind.Component.{Component}
use Rattle.rv_shape.specs.declared.kind.Parameter.{Parameter}
use Rattle.rv_shape.specs.declared.kind.Range.{Range}
use Rattle.rv_shape.specs.Kinds.{holds}
use Rattle.rv_history.specs.Fitting.{all_fit}
use Rattle.rv_fits.proofs.Both.{first_of_both, second_of_both, both_hold}
use Rattle.rv_ranged.specs.Ranged.{covers, parameter_keeps, component_keeps}
use Rattle.rv_exec.specs.declared.end.Cause.{Cause}
use Rattle.rv_exec.specs.declared.end.Cause.TheVariants.{Raised}
use Rattle.rv_exec.specs.Operators.{within}

up : (a b c : ℕ) → nat_le a b ≡ true → nat_le b c ≡ true → nat_le a c ≡ true
up a b c e f = grind (arith, nat_tests)

le_both : (a b c : ℤ) → int_le a b ≡ true → int_le b c ≡ true → int_le a c ≡ true
le_both (pos a) (pos b) (pos c) e f = up a b c e f
le_both (pos a) (pos b) (negsuc c) e f = absurd (cc f)
le_both (pos a) (negsuc b) c e f = absurd (cc e)
le_both (negsuc a) (pos b) (pos c) e f = refl
le_both (negsuc a) (pos b) (negsuc c) e f = absurd (cc f)
le_both (negsuc a) (negsuc b) (pos c) e f = refl
le_both (negsuc a) (negsuc b) (negsuc c) e f = up c b a f e

-- a value of a range that lies in another is one of the other
pub covered : (range inner : Range) (v : ℤ) → covers range inner ≡ true → holds inner v ≡ true → holds range v ≡ true
covered range inner v e f =
    both_hold (int_le range.low v) (int_le v range.high)
    (le_both range.low inner.low v (first_of_both (int_le range.low inner.low) (int_le inner.high range.high) e) (first_of_both (int_le inner.low v) (int_le v inner.high) f))
    (le_both v inner.high range.high (second_of_both (int_le inner.low v) (int_le v inner.high) f) (second_of_both (int_le range.low inner.low) (int_le inner.high range.high) e))

-- what must lie within a range does, or raises
pub within_cases : (P : Result ℤ Cause → Type 0) (range : Range) (v : ℤ) → (holds range v ≡ true → P (Ok v)) → P (Err (Raised ConstraintError)) → P (within range v)
within_cases P range v f g = by_test (holds range v) f where
  by_test : (k : Bool) → (k ≡ true → P (Ok v)) → P (cond k (Ok v) (Err (Raised ConstraintError)))
  by_test true f = f refl
  by_test false f = g

-- Components

abbrev pub component_ranges : List Component → List Range
component_ranges components = map (λ c. c.range) components

pub set_fits : (cs : List Component) (vs : List ℤ) (i : ℕ) (v : ℤ) (range : Range) → component_keeps range (slice_get cs i) ≡ true → holds range v ≡ true
    → all_fit (component_ranges cs) vs ≡ true → all_fit (component_ranges cs) (slice_set vs i v) ≡ true
set_fits [] [] i v range k h f = refl
set_fits [] (u ∷ vs) i v range k h f = absurd (cc f)
set_fits (c ∷ cs) [] i v range k h f = absurd (cc f)
set_fits (c ∷ cs) (u ∷ vs) zero v range k h f =
    both_hold (holds c.range v) (all_fit (component_ranges cs) vs) (covered c.range range v k h) (second_of_both (holds c.range u) (all_fit (component_ranges cs) vs) f)
set_fits (c ∷ cs) (u ∷ vs) (suc i) v range k h f =
    both_hold (holds c.range u) (all_fit (component_ranges cs) (slice_set vs i v)) (first_of_both (holds c.range u) (all_fit (component_ranges cs) vs) f)
    (set_fits cs vs i v range k h (second_of_both (holds c.range u) (all_fit (component_ranges cs) vs) f))

-- Slots

-- each parameter's slot has a value of its range
abbrev pub KeptSlots : List Parameter → List ℤ → Type 0
KeptSlots ps slots = (i : ℕ) (p : Parameter) → slice_get ps i ≡ Some p → holds p.range (slice_index_or slots i (pos 0)) ≡ true

pub get_set : (P : ℤ → Type 0) (xs : List ℤ) (i j : ℕ) (v : ℤ) → (i ≡ j → P v) → P (slice_index_or xs i (pos 0)) → P (slice_index_or (slice_set xs j v) i (pos 0))
get_set P [] i j v f g = g
get_set P (x ∷ xs) zero zero v f g = f refl
get_set P (x ∷ xs) zero (suc j) v f g = g
get_set P (x ∷ xs) (suc i) zero v f g = g
get_set P (x ∷ xs) (suc i) (suc j) v f g = get_set P xs i j v (λ e. f (ap suc e)) g

pub set_slot : (ps : List Parameter) (slots : List ℤ) (j : ℕ) (v : ℤ) (range : Range) → parameter_keeps range (slice_get ps j) ≡ true → holds range v ≡ true
    → KeptSlots ps slots → KeptSlots ps (slice_set slots j v)
set_slot ps slots j v range k h f i p e =
    get_set (λ u. holds p.range u ≡ true) slots i j v
    (λ same. covered p.range range v (sym (ap (λ (o : Option Parameter). parameter_keeps range o) (ap (λ (n : ℕ). slice_get ps n) (sym same) ∙ e)) ∙ k) h)
    (f i p e)

pub found_below : {X : Type 0} (xs : List X) (i : ℕ) (x : X) → slice_get xs i ≡ Some x → i < length xs
found_below [] i x e = absurd (cc e)
found_below (y ∷ xs) zero x e = omega arith
found_below (y ∷ xs) (suc i) x e = let less = found_below xs i x e in omega (arith, less)

not_both : (n i : ℕ) → nat_le n i ≡ true → i < n → ⊥
not_both n i e less = grind (arith, nat_tests)

-- a slot past those of the parameters
pub set_apart : (ps : List Parameter) (slots : List ℤ) (j : ℕ) (v : ℤ) → nat_le (length ps) j ≡ true → KeptSlots ps slots → KeptSlots ps (slice_set slots j v)
set_apart ps slots j v past f i p e =
    get_set (λ u. holds p.range u ≡ true) slots i j v
    (λ same. absurd (not_both (length ps) j past (found_below ps j p (ap (λ (n : ℕ). slice_get ps n) (sym same) ∙ e))))
    (f i p e)
