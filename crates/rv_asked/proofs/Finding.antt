-- The first body of an actor, by its place.
use Rattle.std.proofs.Common.{◌≡◌, ◌+◌, ◌<◌, ◌≤◌, ℕ, zero, suc, Bool, true, false, Some, List, [], ◌∷◌, length, get_or, take, refl, sym, ap, ◌∙◌, arith, if◌then◌else◌}
use Rattle.std.specs.Prelude.{◌==◌, remove, slice_get}
use Rattle.std.specs.List.{filter}
use Rattle.rv_event.specs.Past.{without}
use Rattle.rv_event.specs.declared.entry.Body.{Body}

abbrev pub by : ℕ → Body → Bool
by actor body = body.actor == actor

-- it is the one at this place
pub record IsFirst (actor : ℕ) (xs : List Body) (i : ℕ) (x : Body) : Type 0 where
  pub first : slice_get (filter (by actor) xs) 0 ≡ Some x
  pub rest : remove xs i ≡ without actor xs

here : (actor : ℕ) (x : Body) (xs : List Body) (b : Bool) → b ≡ true →
    (slice_get (if b then x ∷ filter (by actor) xs else filter (by actor) xs) 0 ≡ Some x) × (xs ≡ (if b then xs else x ∷ without actor xs))
here actor x xs true e = (refl, refl)
here actor x xs false e = absurd cc

later : (actor : ℕ) (x y : Body) (xs : List Body) (i : ℕ) (b : Bool) → (if b then x ∷ filter (by actor) (take i xs) else filter (by actor) (take i xs)) ≡ [] → (filter (by actor) (take i xs) ≡ [] → IsFirst actor xs i y) →
    (slice_get (if b then x ∷ filter (by actor) xs else filter (by actor) xs) 0 ≡ Some y) × ((x ∷ remove xs i) ≡ (if b then xs else x ∷ without actor xs))
later actor x y xs i true e h = absurd cc
later actor x y xs i false e h = ((h e).first, ap (λ (ys : List Body). x ∷ ys) (h e).rest)

pub found : (actor : ℕ) (xs : List Body) (i : ℕ) (d : Body) → i < length xs → filter (by actor) (take i xs) ≡ [] → by actor (get_or xs i d) ≡ true → IsFirst actor xs i (get_or xs i d)
found actor [] i d lt none is = absurd (omega arith)
found actor (x ∷ xs) zero d lt none is =
    let p = here actor x xs (by actor x) is in
    record { first = p.0; rest = p.1 }
found actor (x ∷ xs) (suc i) d lt none is =
    let p = later actor x (get_or xs i d) xs i (by actor x) none (λ e. found actor xs i d (omega arith) e is) in
    record { first = p.0; rest = p.1 }

-- one more that isn't
skipped : (actor : ℕ) (x : Body) (xs : List Body) (i : ℕ) (b : Bool) → (if b then x ∷ filter (by actor) (take i xs) else filter (by actor) (take i xs)) ≡ [] → (filter (by actor) (take i xs) ≡ [] → filter (by actor) (take (suc i) xs) ≡ []) →
    (if b then x ∷ filter (by actor) (take (suc i) xs) else filter (by actor) (take (suc i) xs)) ≡ []
skipped actor x xs i true e h = absurd cc
skipped actor x xs i false e h = h e

passed : (actor : ℕ) (x : Body) (xs : List Body) (b : Bool) → b ≡ false → (if b then x ∷ filter (by actor) (take 0 xs) else filter (by actor) (take 0 xs)) ≡ []
passed actor x xs true e = absurd cc
passed actor x [] false e = refl
passed actor x (y ∷ ys) false e = refl

pub past_one : (actor : ℕ) (xs : List Body) (i : ℕ) (d : Body) → i < length xs → filter (by actor) (take i xs) ≡ [] → by actor (get_or xs i d) ≡ false → filter (by actor) (take (suc i) xs) ≡ []
past_one actor [] i d lt none is = absurd (omega arith)
past_one actor (x ∷ xs) zero d lt none is = passed actor x xs (by actor x) is
past_one actor (x ∷ xs) (suc i) d lt none is = skipped actor x xs i (by actor x) none (λ e. past_one actor xs i d (omega arith) e is)

pub past_one_at : (actor : ℕ) (xs : List Body) (i : ℕ) (d : Body) → i < length xs → filter (by actor) (take i xs) ≡ [] → by actor (get_or xs i d) ≡ false → filter (by actor) (take (i + 1) xs) ≡ []
past_one_at actor xs i d lt none is =
    let e : i + 1 ≡ suc i = omega arith in
    ap (λ (n : ℕ). filter (by actor) (take n xs)) e ∙ past_one actor xs i d lt none is

-- there is none
nobody : (actor : ℕ) (x : Body) (xs : List Body) (b : Bool) → (if b then x ∷ filter (by actor) xs else filter (by actor) xs) ≡ [] → (filter (by actor) xs ≡ [] → without actor xs ≡ xs) → (if b then xs else x ∷ without actor xs) ≡ x ∷ xs
nobody actor x xs true e h = absurd cc
nobody actor x xs false e h = ap (λ (ys : List Body). x ∷ ys) (h e)

pub all_left : (actor : ℕ) (xs : List Body) → filter (by actor) xs ≡ [] → without actor xs ≡ xs
all_left actor [] e = refl
all_left actor (x ∷ xs) e = nobody actor x xs (by actor x) e (all_left actor xs)

whole : (xs : List Body) (i : ℕ) → length xs ≤ i → take i xs ≡ xs
whole [] zero le = refl
whole [] (suc i) le = refl
whole (x ∷ xs) zero le = absurd (omega arith)
whole (x ∷ xs) (suc i) le = ap (λ (ys : List Body). x ∷ ys) (whole xs i (omega arith))

pub none_left : (actor : ℕ) (xs : List Body) (i : ℕ) → length xs ≤ i → filter (by actor) (take i xs) ≡ [] → xs ≡ without actor xs
none_left actor xs i le none = sym (all_left actor xs (sym (ap (λ (ys : List Body). filter (by actor) ys) (whole xs i le)) ∙ none))
