-- Bodies of several units.
use Rattle.std.proofs.Common.{◌≡◌, ℕ, zero, suc, ◌-◌, ◌≤◌, ◌<◌, List, [], ◌∷◌, ◌++◌, length, map, Option, Some, None, refl, sym, ap, ◌∙◌, arith, append_assoc, append-nil}
use Rattle.std.specs.Prelude.{slice_get, IfSome, IsNone}
use Rattle.std.specs.Option.{option_map}
use Rattle.rv_code.specs.Bodies.{UnitBodies}
use Rattle.rv_exec.specs.Bodies.{all_of, with_unit, shared_view}
use Rattle.rv_exec.specs.declared.bodies.SharedUnit.{SharedUnit}

-- one unit more
pub all_more : (us : List UnitBodies) (u : UnitBodies) → all_of (us ++ u ∷ []) ≡ with_unit u (all_of us)
all_more [] u = λ i. record { objects = append-nil u.objects i; tasks = append-nil u.tasks i }
all_more (v ∷ us) u =
    ap (λ (z : UnitBodies). record { objects = v.objects ++ z.objects; tasks = v.tasks ++ z.tasks }) (all_more us u)
    ∙ (λ i. record {
      objects = sym (append_assoc v.objects (all_of us).objects u.objects) i;
      tasks = sym (append_assoc v.tasks (all_of us).tasks u.tasks) i;
    })

pub front : {X : Type 0} (xs ys : List X) (i : ℕ) (x : X) → slice_get xs i ≡ Some x → slice_get (xs ++ ys) i ≡ Some x
front [] ys i x e = absurd (cc e)
front (x ∷ xs) ys zero y e = e
front (x ∷ xs) ys (suc i) y e = front xs ys i y e

pub behind : {X : Type 0} (xs ys : List X) (i : ℕ) → length xs ≤ i → slice_get (xs ++ ys) i ≡ slice_get ys (i - length xs)
behind [] ys i e = let same : i - 0 ≡ i = omega arith in rw same refl
behind (x ∷ xs) ys zero e = absurd (omega (arith, e))
behind (x ∷ xs) ys (suc i) e = let same : suc i - suc (length xs) ≡ i - length xs = omega arith in rw same (behind xs ys i (omega (arith, e)))

not_past : {X : Type 0} (xs : List X) (i : ℕ) → slice_get xs i ≡ None → length xs ≤ i
not_past [] i e = omega arith
not_past (x ∷ xs) zero e = absurd (cc e)
not_past (x ∷ xs) (suc i) e = let rest = not_past xs i e in omega (arith, rest)

-- what is found in the front, and that something is
pub found_front : {X V : Type 0} (view : V → X) (xs ys : List X) (i : ℕ) (found : Option V) → option_map view found ≡ slice_get xs i
    → IfSome found (λ v. slice_get (xs ++ ys) i ≡ Some (view v))
found_front view xs ys i None e = tt
found_front view xs ys i (Some v) e = front xs ys i (view v) (sym e)

pub none_front : {X V : Type 0} (view : V → X) (xs ys : List X) (i : ℕ) (found : Option V) → option_map view found ≡ slice_get xs i → i < length xs
    → IsNone found → slice_get (xs ++ ys) i ≡ None
none_front view xs ys i None e lt none = let past = not_past xs i (sym e) in absurd (omega (arith, past, lt))
none_front view xs ys i (Some v) e lt none = absurd (cc none)

views_more : (us : List SharedUnit) (s : SharedUnit) → map shared_view (us ++ s ∷ []) ≡ map shared_view us ++ shared_view s ∷ []
views_more [] s = refl
views_more (u ∷ us) s = ap (λ (l : List UnitBodies). shared_view u ∷ l) (views_more us s)

-- one more that is shared
pub added : (old new : List SharedUnit) (s : SharedUnit) (unit : UnitBodies) → new ≡ old ++ s ∷ [] → shared_view s ≡ unit → all_of (map shared_view new) ≡ with_unit unit (all_of (map shared_view old))
added old new s unit is same =
    ap (λ (l : List SharedUnit). all_of (map shared_view l)) is
    ∙ (ap all_of (views_more old s)
    ∙ (all_more (map shared_view old) (shared_view s) ∙ ap (λ (z : UnitBodies). with_unit z (all_of (map shared_view old))) same))
