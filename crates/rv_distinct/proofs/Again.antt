-- Identifiers that are noted one by one are distinct where each is new.
use Rattle.std.specs.Prelude.{ℕ, Bool, true, false, ◌&&◌, ◌||◌, not, List, [], ◌∷◌, ◌++◌}
use Rattle.std.proofs.Common.{◌≡◌, ◌∙◌, ◌<◌, length, ap, sym, refl, arith}
use Rattle.std.specs.List.{list_all, list_any}
use Rattle.std.proofs.lemmas.List.Folds.{list_any-append}
use Rattle.rv_text.specs.Names.{is_same_name}
use Rattle.rv_tree.specs.Names.{Identifier}
use Rattle.rv_distinct.specs.Regions.{has_name, are_distinct}

-- the identifier has one of these names
abbrev pub is_noted : List (List ℕ) → Identifier → Bool
is_noted names i = list_any (is_same_name i.text) names

-- none has a name that is noted, where each is noted in turn
abbrev pub are_new : List (List ℕ) → List Identifier → Bool
are_new names [] = true
are_new names (i ∷ behind) = not (is_noted names i) && are_new (names ++ i.text ∷ []) behind

neither : (a b : Bool) → not (a || (b || false)) ≡ (not a && not b)
neither true b = refl
neither false true = refl
neither false false = refl

neither_of : (a b : Bool) → not (a || b) ≡ (not a && not b)
neither_of true b = refl
neither_of false b = refl

crossed : (a b c d : Bool) → ((a && b) && (c && d)) ≡ ((a && c) && (b && d))
crossed true true true d = refl
crossed true true false d = refl
crossed true false true d = refl
crossed true false false d = refl
crossed false b c d = refl

grouped : (a b c d : Bool) → (a && ((b && c) && d)) ≡ ((a && b) && (c && d))
grouped true true c d = refl
grouped true false c d = refl
grouped false b c d = refl

-- none has a name that is noted, nor that of one more
one_more : (names : List (List ℕ)) (n : List ℕ) (xs : List Identifier) →
    list_all (λ o. not (is_noted (names ++ n ∷ []) o)) xs ≡ (list_all (λ o. not (is_noted names o)) xs && not (has_name xs n))
one_more names n [] = refl
one_more names n (x ∷ xs) =
    ap (λ (b : Bool). not b && list_all (λ o. not (is_noted (names ++ n ∷ []) o)) xs) (list_any-append (is_same_name x.text) names (n ∷ []))
    ∙ ap (λ (b : Bool). b && list_all (λ o. not (is_noted (names ++ n ∷ []) o)) xs) (neither (is_noted names x) (is_same_name x.text n))
    ∙ ap (λ (b : Bool). (not (is_noted names x) && not (is_same_name x.text n)) && b) (one_more names n xs)
    ∙ crossed (not (is_noted names x)) (not (is_same_name x.text n)) (list_all (λ o. not (is_noted names o)) xs) (not (has_name xs n))
    ∙ ap (λ (b : Bool). (not (is_noted names x) && list_all (λ o. not (is_noted names o)) xs) && b) (sym (neither_of (is_same_name x.text n) (has_name xs n)))

new_from : (names : List (List ℕ)) (xs : List Identifier) → are_new names xs ≡ (list_all (λ o. not (is_noted names o)) xs && are_distinct xs)
new_from names [] = refl
new_from names (x ∷ xs) =
    ap (λ (b : Bool). not (is_noted names x) && b) (new_from (names ++ x.text ∷ []) xs)
    ∙ ap (λ (b : Bool). not (is_noted names x) && (b && are_distinct xs)) (one_more names x.text xs)
    ∙ grouped (not (is_noted names x)) (list_all (λ o. not (is_noted names o)) xs) (not (has_name xs x.text)) (are_distinct xs)

none_noted : (xs : List Identifier) → list_all (λ o. not (is_noted [] o)) xs ≡ true
none_noted [] = refl
none_noted (x ∷ xs) = none_noted xs

pub new_are_distinct : (xs : List Identifier) → are_new [] xs ≡ are_distinct xs
new_are_distinct xs = new_from [] xs ∙ ap (λ (b : Bool). b && are_distinct xs) (none_noted xs)

-- fewer than two are
pub few_are_distinct : (xs : List Identifier) → length xs < 2 → true ≡ are_distinct xs
few_are_distinct [] few = refl
few_are_distinct (x ∷ []) few = refl
few_are_distinct (x ∷ y ∷ xs) few = absurd (omega arith)
