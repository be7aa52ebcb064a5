-- What holds of letters, digits and low lines holds of each byte of a name.
use Rattle.std.proofs.Common.{◌≡◌, ℕ, ◌+◌, ◌<◌, ◌⊎◌, inl, inr, Bool, true, false, List, [], ◌∷◌, ◌++◌, length, map, get_or, arith, sym, subst, refl}
use Rattle.std.specs.Prelude.{◌==◌, ◌&&◌, not, nat_le, nat_lt, is_some, Some, None, if◌then◌else◌}
use Rattle.std.specs.Str.{all_ascii_digits}
use Rattle.std.specs.Char.{is_ascii_digit, is_ascii_alphanumeric, to_ascii_lowercase}
use Rattle.std.specs.List.{All, position_or_len, before_first, after_first}
use Rattle.std.proofs.lemmas.Bool.Decides.{nat_tests}
use Rattle.std.proofs.lemmas.List.Elements.{All-cons, All-nil}
use Rattle.std.proofs.lemmas.List.Sums.{split_at_first, passes_at_first}
use Rattle.std.proofs.lemmas.Slice.Eq.{bytes_eq-Decides}
use Rattle.rv_text.specs.Names.{dotted_parts, is_dot, is_identifier, is_same_name, is_spelled, starts_with_letter}
use Rattle.rv_text.specs.Numbers.{is_natural}

pub and_first : (a b : Bool) → (a && b) ≡ true → a ≡ true
and_first true b e = refl
and_first false b e = absurd cc

pub and_second : (a b : Bool) → (a && b) ≡ true → b ≡ true
and_second true b e = e
and_second false b e = absurd cc

-- P of each element
abbrev pub Each : {X : Type 0} → (X → Type 0) → List X → Type 0
Each P [] = Unit {0}
Each P (x ∷ xs) = P x × Each P xs

pub each_append : {X : Type 0} (P : X → Type 0) (xs ys : List X) → Each P xs → Each P ys → Each P (xs ++ ys)
each_append P [] ys h g = g
each_append P (x ∷ xs) ys h g = (h.0, each_append P xs ys h.1 g)

pub each_so : {X : Type 0} (P Q : X → Type 0) (xs : List X) → ((x : X) → P x → Q x) → Each P xs → Each Q xs
each_so P Q [] f h = tt
each_so P Q (x ∷ xs) f h = (f x h.0, each_so P Q xs f h.1)

pub each_all : {X : Type 0} (P : X → Type 0) (xs : List X) → Each P xs → All P xs
each_all P [] h = All-nil P
each_all P (x ∷ xs) h = All-cons P x xs h.0 (each_all P xs h.1)

-- P of each byte that may stand in an identifier
pub record InNames (P : ℕ → Type 0) : Type 0 where
  pub letter : (byte : ℕ) → is_ascii_alphanumeric byte ≡ true → P byte
  pub low_line : P 95

low_line_is : (P : ℕ → Type 0) (c : ℕ) → P 95 → (c == 95) ≡ true → P c
low_line_is P c h e = let is : 95 ≡ c = grind (arith, nat_tests, e) in subst P is h

-- a letter or digit with what follows, or a low line with what follows it
spelled_either : (letter line more rest : Bool) → (if letter then more else (if line then rest else false)) ≡ true →
    ((letter ≡ true) × (more ≡ true)) ⊎ ((line ≡ true) × (rest ≡ true))
spelled_either true line more rest e = inl (refl, e)
spelled_either false true more rest e = inr (refl, e)
spelled_either false false more rest e = absurd cc

spelled_step : (P : ℕ → Type 0) (gap : Bool) (c : ℕ) (cs : List ℕ) → InNames P → ((g : Bool) → is_spelled g cs ≡ true → Each P cs) → is_spelled gap (c ∷ cs) ≡ true → Each P (c ∷ cs)
spelled_step P gap c cs names more e =
    by_either (spelled_either (is_ascii_alphanumeric c) (c == 95 && not gap) (is_spelled false cs) (is_spelled true cs) e)
  where
    by_either : ((is_ascii_alphanumeric c ≡ true) × (is_spelled false cs ≡ true)) ⊎ (((c == 95 && not gap) ≡ true) × (is_spelled true cs ≡ true)) → Each P (c ∷ cs)
    by_either (inl h) = (names.letter c h.0, more false h.1)
    by_either (inr h) = (low_line_is P c names.low_line (and_first (c == 95) (not gap) h.0), more true h.1)

spelled_each : (P : ℕ → Type 0) (gap : Bool) (bytes : List ℕ) → InNames P → is_spelled gap bytes ≡ true → Each P bytes
spelled_each P gap [] names e = tt
spelled_each P gap (c ∷ cs) names e = spelled_step P gap c cs names (λ g h. spelled_each P g cs names h) e

pub identifier_each : (P : ℕ → Type 0) (word : List ℕ) → InNames P → is_identifier word ≡ true → Each P word
identifier_each P word names e = spelled_each P true word names (and_second (nat_le (length word) 64 && starts_with_letter word) (is_spelled true word) e)

-- `Unit.Object`

dot_is : (P : ℕ → Type 0) (byte : ℕ) → P 46 → is_dot byte ≡ true → P byte
dot_is P byte h e = let is : 46 ≡ byte = grind (arith, nat_tests, e) in subst P is h

parts_each : (P : ℕ → Type 0) (word : List ℕ) → InNames P → P 46 → position_or_len is_dot word < length word → is_identifier (before_first is_dot word) ≡ true →
    is_identifier (after_first is_dot word) ≡ true → Each P word
parts_each P word names dot within first second =
    subst (Each P) (sym (split_at_first is_dot word 0 within))
    (each_append P (before_first is_dot word) (get_or word (position_or_len is_dot word) 0 ∷ after_first is_dot word) (identifier_each P (before_first is_dot word) names first)
    (dot_is P (get_or word (position_or_len is_dot word) 0) dot (passes_at_first is_dot word 0 within), identifier_each P (after_first is_dot word) names second))

pub dotted_each : (P : ℕ → Type 0) (word : List ℕ) → InNames P → P 46 → is_some (dotted_parts word) ≡ true → Each P word
dotted_each P word names dot e =
    by_test (nat_lt (position_or_len is_dot word) (length word) && is_identifier (before_first is_dot word) && is_identifier (after_first is_dot word)) refl e
  where
    by_test : (b : Bool) → (nat_lt (position_or_len is_dot word) (length word) && is_identifier (before_first is_dot word) && is_identifier (after_first is_dot word)) ≡ b →
        is_some {T = List ℕ × List ℕ} (if b then Some (before_first is_dot word, after_first is_dot word) else None) ≡ true → Each P word
    by_test true t e =
        let front = and_first (nat_lt (position_or_len is_dot word) (length word) && is_identifier (before_first is_dot word)) (is_identifier (after_first is_dot word)) t in
        let there = and_first (nat_lt (position_or_len is_dot word) (length word)) (is_identifier (before_first is_dot word)) front in
        let within : position_or_len is_dot word < length word = grind (arith, nat_tests, there) in
        parts_each P word names dot within (and_second (nat_lt (position_or_len is_dot word) (length word)) (is_identifier (before_first is_dot word)) front)
        (and_second (nat_lt (position_or_len is_dot word) (length word) && is_identifier (before_first is_dot word)) (is_identifier (after_first is_dot word)) t)
    by_test false t e = absurd cc

-- Numbers

digit_letter : (c : ℕ) → is_ascii_digit c ≡ true → is_ascii_alphanumeric c ≡ true
digit_letter c e = grind (arith, nat_tests, e)

pub digits_each : (P : ℕ → Type 0) (ds : List ℕ) → InNames P → all_ascii_digits ds ≡ true → Each P ds
digits_each P [] names e = tt
digits_each P (c ∷ cs) names e =
    (names.letter c (digit_letter c (and_first (is_ascii_digit c) (all_ascii_digits cs) e)), digits_each P cs names (and_second (is_ascii_digit c) (all_ascii_digits cs) e))

pub number_each : (P : ℕ → Type 0) (word : List ℕ) → InNames P → is_natural word ≡ true → Each P word
number_each P word names e = digits_each P word names (and_second (nat_lt 0 (length word) && nat_le (length word) 18) (all_ascii_digits word) e)

-- Words of letters, but for case

lower_letter : (c : ℕ) → is_ascii_alphanumeric (to_ascii_lowercase c) ≡ true → is_ascii_alphanumeric c ≡ true
lower_letter c e = by_test (nat_lt c 65) (nat_lt c 91) refl refl e
  where
    by_test : (low high : Bool) → nat_lt c 65 ≡ low → nat_lt c 91 ≡ high → is_ascii_alphanumeric (if low then c else (if high then c + 32 else c)) ≡ true → is_ascii_alphanumeric c ≡ true
    by_test true high l h e = e
    by_test false false l h e = e
    by_test false true l h e = grind (arith, nat_tests, l, h)

lowered_each : (P : ℕ → Type 0) (word : List ℕ) → InNames P → Each (λ c. is_ascii_alphanumeric c ≡ true) (map to_ascii_lowercase word) → Each P word
lowered_each P [] names h = tt
lowered_each P (c ∷ cs) names h = (names.letter c (lower_letter c h.0), lowered_each P cs names h.1)

pub same_each : (P : ℕ → Type 0) (word name : List ℕ) → InNames P → is_same_name word name ≡ true → Each (λ c. is_ascii_alphanumeric c ≡ true) (map to_ascii_lowercase name) → Each P word
same_each P word name names e h =
    lowered_each P word names (subst (Each (λ c. is_ascii_alphanumeric c ≡ true)) (sym ((bytes_eq-Decides (map to_ascii_lowercase word) (map to_ascii_lowercase name)).0 e)) h)
