-- The place of the newest of an actor.
use Rattle.std.proofs.Common.{◌≡◌, ◌+◌, ◌<◌, ℕ, zero, suc, Bool, true, false, Some, None, Option, List, [], ◌∷◌, length, get_or, refl, ap, ◌∙◌, arith, if◌then◌else◌}
use Rattle.std.specs.Prelude.{nat_lt, not, position, remove}
use Rattle.std.specs.List.{position_or_len}
use Rattle.std.proofs.lemmas.Bool.Decides.{nat_tests}
use Rattle.rv_lasting.specs.Tracks.{is_of, newest_of, without}
use Rattle.rv_lasting.specs.declared.track.Begun.{Begun}

abbrev place : ℕ → List Begun → ℕ
place actor xs = position_or_len (is_of actor) xs

-- it stands there
record IsThere (actor : ℕ) (xs : List Begun) (i : ℕ) : Type 0 where
  taken : (d : Begun) → Some (get_or xs i d) ≡ newest_of actor xs
  rest : remove xs i ≡ without actor xs

step : (actor : ℕ) (x : Begun) (xs : List Begun) (i : ℕ) (b : Bool) → (if not b then 1 + place actor xs else 0) ≡ i → i < suc (length xs) → ((j : ℕ) → place actor xs ≡ j → j < length xs → IsThere actor xs j) →
    ((d : Begun) → Some (get_or (x ∷ xs) i d) ≡ (if b then Some x else newest_of actor xs)) × (remove (x ∷ xs) i ≡ (if b then xs else x ∷ without actor xs))
step actor x xs zero true e lt h = (λ d. refl, refl)
step actor x xs (suc i) true e lt h = absurd (omega arith)
step actor x xs zero false e lt h = absurd (omega arith)
step actor x xs (suc i) false e lt h =
    let there = h i (omega arith) (omega arith) in
    (λ d. there.taken d, ap (λ (ys : List Begun). x ∷ ys) there.rest)

there : (actor : ℕ) (xs : List Begun) (i : ℕ) → place actor xs ≡ i → i < length xs → IsThere actor xs i
there actor [] i e lt = absurd (omega arith)
there actor (x ∷ xs) i e lt =
    let p = step actor x xs i (is_of actor x) e lt (there actor xs) in
    record { taken = p.0; rest = p.1 }

-- there is none
record IsNowhere (actor : ℕ) (xs : List Begun) : Type 0 where
  none : newest_of actor xs ≡ None
  rest : without actor xs ≡ xs

step_on : (actor : ℕ) (x : Begun) (xs : List Begun) (b : Bool) → nat_lt (if not b then 1 + place actor xs else 0) (suc (length xs)) ≡ false → (nat_lt (place actor xs) (length xs) ≡ false → IsNowhere actor xs) →
    ((if b then Some x else newest_of actor xs) ≡ None) × ((if b then xs else x ∷ without actor xs) ≡ x ∷ xs)
step_on actor x xs true e h = absurd (grind (arith, nat_tests))
step_on actor x xs false e h =
    let past : nat_lt (place actor xs) (length xs) ≡ false = grind (arith, nat_tests) in
    let none = h past in
    (none.none, ap (λ (ys : List Begun). x ∷ ys) none.rest)

nowhere : (actor : ℕ) (xs : List Begun) → nat_lt (place actor xs) (length xs) ≡ false → IsNowhere actor xs
nowhere actor [] e = record { none = refl; rest = refl }
nowhere actor (x ∷ xs) e =
    let p = step_on actor x xs (is_of actor x) e (nowhere actor xs) in
    record { none = p.0; rest = p.1 }

-- what `position` gives

found : (actor : ℕ) (xs : List Begun) (i : ℕ) (b : Bool) → nat_lt (place actor xs) (length xs) ≡ b → (let o : Option ℕ = if b then Some (place actor xs) else None in o) ≡ Some i → IsThere actor xs i
found actor xs i true lt e =
    let is : place actor xs ≡ i = cc in
    there actor xs i is (grind (arith, nat_tests))
found actor xs i false lt e = absurd cc

pub taken_at : (actor : ℕ) (xs : List Begun) (i : ℕ) (r : Begun) → position (is_of actor) xs ≡ Some i → r ≡ get_or xs i r → Some r ≡ newest_of actor xs
taken_at actor xs i r e is = ap (λ (it : Begun). let o : Option Begun = Some it in o) is ∙ (found actor xs i (nat_lt (place actor xs) (length xs)) refl e).taken r

pub rest_at : (actor : ℕ) (xs : List Begun) (i : ℕ) → position (is_of actor) xs ≡ Some i → remove xs i ≡ without actor xs
rest_at actor xs i e = (found actor xs i (nat_lt (place actor xs) (length xs)) refl e).rest

unfound : (actor : ℕ) (xs : List Begun) (b : Bool) → nat_lt (place actor xs) (length xs) ≡ b → (let o : Option ℕ = if b then Some (place actor xs) else None in o) ≡ None → IsNowhere actor xs
unfound actor xs true lt e = absurd cc
unfound actor xs false lt e = nowhere actor xs lt

pub none_at : (actor : ℕ) (xs : List Begun) → position (is_of actor) xs ≡ None → newest_of actor xs ≡ None
none_at actor xs e = (unfound actor xs (nat_lt (place actor xs) (length xs)) refl e).none

pub all_at : (actor : ℕ) (xs : List Begun) → position (is_of actor) xs ≡ None → without actor xs ≡ xs
all_at actor xs e = (unfound actor xs (nat_lt (place actor xs) (length xs)) refl e).rest
