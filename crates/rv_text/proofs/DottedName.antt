-- A word is `unit.name` where its parts are, case ignored.
use Rattle.std.proofs.Common.{◌≡◌, ℕ, ◌<◌, ◌≤◌, ◌≢◌, Bool, true, false, List, [], ◌∷◌, ◌++◌, length, map, get_or, take, drop, refl, sym, ap, ◌∙◌, arith}
use Rattle.std.specs.Prelude.{◌==◌, ◌&&◌, IsTrue, ◌↔◌}
use Rattle.std.specs.Char.{to_ascii_lowercase}
use Rattle.std.specs.Str.{bytes_eq}
use Rattle.std.proofs.lemmas.Bool.Decides.{nat_tests, same_from_decides}
use Rattle.std.proofs.lemmas.Slice.Eq.{bytes_eq-Decides}
use Rattle.std.proofs.lemmas.List.{length-drop}
use Rattle.rv_text.specs.Names.{dotted, is_same_name}

abbrev low : List ℕ → List ℕ
low = map to_ascii_lowercase

and_assoc : (a b c : Bool) → (a && (b && c)) ≡ ((a && b) && c)
and_assoc true b c = refl
and_assoc false b c = refl

cut_same : (word unit tail : List ℕ) → length unit ≤ length word → bytes_eq (low word) (low (unit ++ tail)) ≡ (bytes_eq (low (take (length unit) word)) (low unit) && bytes_eq (low (drop (length unit) word)) (low tail))
cut_same word [] tail h = refl
cut_same [] (u ∷ unit) tail h = absurd (omega arith)
cut_same (x ∷ word) (u ∷ unit) tail h =
    ap (λ (b : Bool). (to_ascii_lowercase x == to_ascii_lowercase u) && b) (cut_same word unit tail (omega (arith, h)))
    ∙ and_assoc (to_ascii_lowercase x == to_ascii_lowercase u) (bytes_eq (low (take (length unit) word)) (low unit)) (bytes_eq (low (drop (length unit) word)) (low tail))

lowered_dot : (x : ℕ) → (to_ascii_lowercase x == 46) ≡ (x == 46)
lowered_dot x = grind (arith, nat_tests)

tail_same : (word name : List ℕ) → 0 < length word → bytes_eq (low word) (low (46 ∷ name)) ≡ ((get_or word 0 0 == 46) && bytes_eq (low (drop 1 word)) (low name))
tail_same [] name h = absurd (omega arith)
tail_same (x ∷ word) name h = ap (λ (b : Bool). b && bytes_eq (low word) (low name)) (lowered_dot x)

pub tested : (xs ys : List ℕ) (t : Bool) → (IsTrue t ↔ (low xs ≡ low ys)) → t ≡ bytes_eq (low xs) (low ys)
tested xs ys t h = same_from_decides t (bytes_eq (low xs) (low ys)) h (bytes_eq-Decides _ _)

and_false : (b : Bool) → (b && false) ≡ false
and_false true = refl
and_false false = refl

-- a longer one is cut where the unit ends
pub by_parts : (word unit name front back : List ℕ) → length unit < length word → front ≡ take (length unit) word → back ≡ drop (length unit) word → is_same_name word (dotted unit name) ≡ (is_same_name front unit && ((get_or back 0 0 == 46) && is_same_name (drop 1 back) name))
by_parts word unit name front back h f b =
    let some : 0 < length (drop (length unit) word) = omega (arith, length-drop (length unit) word, h) in
    rw (f, b) (cut_same word unit (46 ∷ name) (omega (arith, h)) ∙ ap (λ (t : Bool). is_same_name (take (length unit) word) unit && t) (tail_same (drop (length unit) word) name some))

pub front_differs : (word unit name front back : List ℕ) (t : Bool) → length unit < length word → front ≡ take (length unit) word → back ≡ drop (length unit) word → t ≡ is_same_name front unit → t ≡ false → false ≡ is_same_name word (dotted unit name)
front_differs word unit name front back t h f b e off = sym (by_parts word unit name front back h f b ∙ (rw (← e, off) refl))

pub dot_missing : (word unit name front back : List ℕ) → length unit < length word → front ≡ take (length unit) word → back ≡ drop (length unit) word → get_or back 0 0 ≢ 46 → false ≡ is_same_name word (dotted unit name)
dot_missing word unit name front back h f b other =
    let off : (get_or back 0 0 == 46) ≡ false = grind (arith, nat_tests, other) in
    sym (by_parts word unit name front back h f b ∙ (rw off (and_false (is_same_name front unit))))

pub behind_decides : (word unit name front back behind : List ℕ) (t s : Bool) → length unit < length word → front ≡ take (length unit) word → back ≡ drop (length unit) word → t ≡ is_same_name front unit → t ≡ true → get_or back 0 0 ≡ 46 → behind ≡ drop 1 back → s ≡ is_same_name behind name → s ≡ is_same_name word (dotted unit name)
behind_decides word unit name front back behind t s h f b e on dot d last =
    let at : (get_or back 0 0 == 46) ≡ true = grind (arith, nat_tests, dot) in
    last ∙ sym (by_parts word unit name front back h f b ∙ (rw (← e, on, at, d) refl))
