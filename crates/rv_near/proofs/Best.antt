-- The nearest of names, one by one.
use Rattle.std.proofs.Common.{◌≡◌, ℕ, ◌+◌, ◌*◌, ◌<◌, ◌≤◌, List, [], ◌∷◌, ◌++◌, length, get_or, take, map, true, false, ap, sym, ◌∙◌, subst, arith}
use Rattle.std.specs.Prelude.{Option, Some, None, option_map}
use Rattle.std.specs.List.{All}
use Rattle.std.proofs.lemmas.Bool.{leb-true, leb-false}
use Rattle.std.proofs.lemmas.List.{map_push, take_all, take_more}
use Rattle.std.proofs.lemmas.List.Elements.{All-push, All-weaker, Contains-append_left, Contains-push}
use Rattle.rv_near.specs.Near.{IsBest, IsNearest, distance, is_near}

-- one that is near behind others that aren't
pub first_near : (word : List ℕ) (names : List (List ℕ)) (name : List ℕ) → All (λ n. is_near word n ≡ false) names → is_near word name ≡ true → IsNearest word (names ++ name ∷ []) name
first_near word names name none near = record {
  there = Contains-push names name;
  near = near;
  first = All-push (λ other. distance word name ≤ distance word other) names name
      (All-weaker (λ n. is_near word n ≡ false) (λ other. distance word name ≤ distance word other) less names none) (omega arith);
}
  where
    here : 3 * distance word name ≤ length word
    here = leb-true (3 * distance word name) (length word) near

    less : (other : List ℕ) → is_near word other ≡ false → distance word name ≤ distance word other
    less other far = omega (arith, here, leb-false (3 * distance word other) (length word) far)

-- one that isn't nearer
pub kept : {A : Type 0} (f : A → ℕ × List ℕ) (so_far : Option A) (best : A) (word : List ℕ) (names : List (List ℕ)) (name : List ℕ) (edits : ℕ) → so_far ≡ Some best → edits ≡ distance word name → (f best).0 ≤ edits
    → IsBest word names (option_map f so_far) → IsBest word (names ++ name ∷ []) (option_map f so_far)
kept f so_far best word names name edits e is less h = subst (λ o. IsBest word (names ++ name ∷ []) (option_map f o)) (sym e) more
  where
    was : IsBest word names (Some (f best))
    was = subst (λ o. IsBest word names (option_map f o)) e h

    far : distance word (f best).1 ≤ distance word name
    far = omega (arith, was.0, is, less)

    more : IsBest word (names ++ name ∷ []) (Some (f best))
    more = (
      was.0,
      record {
        there = Contains-append_left names (name ∷ []) (f best).1 was.1.there;
        near = was.1.near;
        first = All-push (λ other. distance word (f best).1 ≤ distance word other) names name was.1.first far;
      },
    )

-- the names so far where none is near
pub none_near : {A : Type 0} (f : A → ℕ × List ℕ) (so_far : Option A) (word : List ℕ) (names : List (List ℕ)) → so_far ≡ None → IsBest word names (option_map f so_far) → All (λ n. is_near word n ≡ false) names
none_near f so_far word names e h = subst (λ o. IsBest word names (option_map f o)) e h

-- a name more
pub one_more : {A : Type 0} (now : A → List ℕ) (names : List A) (i : ℕ) (d : A) (word : List ℕ) (best : Option (ℕ × List ℕ)) → i < length names
    → IsBest word (map now (take i names) ++ now (get_or names i d) ∷ []) best → IsBest word (map now (take (i + 1) names)) best
one_more now names i d word best less found =
    subst (λ (ns : List (List ℕ)). IsBest word ns best) (sym (ap (λ ns. map now ns) (take_more names i d less) ∙ map_push now (take i names) (get_or names i d))) found

-- all of them
pub all_names : {A : Type 0} (now : A → List ℕ) (names : List A) (i : ℕ) (word : List ℕ) (best : Option (ℕ × List ℕ)) → length names ≤ i → IsBest word (map now (take i names)) best → IsBest word (map now names) best
all_names now names i word best past found = subst (λ ns. IsBest word (map now ns) best) (take_all i names past) found
