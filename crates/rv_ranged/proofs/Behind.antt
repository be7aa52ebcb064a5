-- The object of a number where a unit more stands behind others.
use Rattle.std.proofs.Common.{◌≡◌, ℕ, zero, suc, ◌-◌, ◌<◌, ◌≤◌, List, [], ◌∷◌, ◌++◌, length, Bool, true, false, None, refl, sym, ap, ◌∙◌, arith}
use Rattle.std.specs.Prelude.{nat_lt, if◌then◌else◌, slice_get}
use Rattle.std.specs.Option.{option_map}
use Rattle.std.proofs.lemmas.Bool.Decides.{nat_tests}
use Rattle.std.proofs.lemmas.Option.{slice_get-map}
use Rattle.rv_shape.specs.Catalogue.{UnitObject, all_objects, numbered, objects_of, place}
use Rattle.rv_shape.specs.Shape.{Shape}
use Rattle.rv_shape.specs.declared.object.Object.{Object}
use Rattle.rv_shape.proofs.Added.{objects_append}

get_front : {X : Type 0} (xs ys : List X) (k : ℕ) → k < length xs → slice_get (xs ++ ys) k ≡ slice_get xs k
get_front [] ys k less = absurd (omega (arith, less))
get_front (x ∷ xs) ys zero less = refl
get_front (x ∷ xs) ys (suc k) less = get_front xs ys k (omega (arith, less))

get_back : {X : Type 0} (xs ys : List X) (k : ℕ) → length xs ≤ k → slice_get (xs ++ ys) k ≡ slice_get ys (k - length xs)
get_back [] ys k past = ap (slice_get ys) (omega arith)
get_back (x ∷ xs) ys zero past = absurd (omega (arith, past))
get_back (x ∷ xs) ys (suc k) past =
    let same : suc k - suc (length xs) ≡ k - length xs = omega arith in
    get_back xs ys k (omega (arith, past)) ∙ sym (ap (slice_get ys) same)

numbered_front : {X : Type 0} (xs ys : List X) (n : ℕ) → n ≤ length xs → numbered (xs ++ ys) n ≡ numbered xs n
numbered_front xs ys n few = by_test (nat_lt n 1) refl
  where
    by_test : (t : Bool) → nat_lt n 1 ≡ t → (if t then None else slice_get (xs ++ ys) (n - 1)) ≡ (if t then None else slice_get xs (n - 1))
    by_test true is = refl
    by_test false is =
        let some : 1 ≤ n = grind (arith, nat_tests) in
        get_front xs ys (n - 1) (omega (arith, few, some))

numbered_back : {X : Type 0} (xs ys : List X) (n : ℕ) → length xs < n → numbered (xs ++ ys) n ≡ slice_get ys (n - length xs - 1)
numbered_back xs ys n past =
    let some : nat_lt n 1 ≡ false = grind (arith, nat_tests) in
    let same : n - 1 - length xs ≡ n - length xs - 1 = omega (arith, past) in
    ap (λ t. if t then None else slice_get (xs ++ ys) (n - 1)) some ∙ get_back xs ys (n - 1) (omega (arith, past)) ∙ ap (slice_get ys) same

pub place_before : (old : List Shape) (s : Shape) (n : ℕ) → n ≤ length (all_objects old) → place (old ++ s ∷ []) n ≡ place old n
place_before old s n few = ap (λ os. numbered os n) (objects_append old s) ∙ numbered_front (all_objects old) (objects_of s) n few

pub place_behind : (old : List Shape) (s : Shape) (n : ℕ) → length (all_objects old) < n →
    place (old ++ s ∷ []) n ≡ option_map (λ (object : Object). record { unit = s.name; object = object }) (slice_get s.objects (n - length (all_objects old) - 1))
place_behind old s n past =
    let seat : Object → UnitObject = λ object. record { unit = s.name; object = object } in
    ap (λ os. numbered os n) (objects_append old s) ∙ numbered_back (all_objects old) (objects_of s) n past
    ∙ slice_get-map seat s.objects (n - length (all_objects old) - 1)
