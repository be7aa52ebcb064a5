-- No longer front is a word.
use Rattle.std.proofs.Common.{◌≡◌, ◌≢◌, ℕ, zero, suc, ◌+◌, ◌-◌, ◌<◌, ◌≤◌, Bool, true, false, cond, not, ◌&&◌, ◌||◌, ◌==◌, nat_le, nat_lt, [], ◌∷◌, length, take, drop, get_or, slice_index, refl, sym, ap, ◌∙◌, arith, ◌⊎◌, inl, inr, length-take-le, length-drop}
use Rattle.std.proofs.lemmas.Bool.{eqb-true, eqb-false, and_parts, leb-true, cases_Bool, not-false, cases_lt, both_ways, cond_both}
use Rattle.std.proofs.lemmas.Bool.Decides.{nat_tests}
use Rattle.std.proofs.lemmas.List.{get_or-take, get_or-drop}
use Rattle.std.proofs.lemmas.List.Sums.{prefix_len_is, prefix_len_passes, prefix_len_stops, prefix_len-le-length}
use Rattle.std.specs.List.{list_all}
use Rattle.std.specs.Char.{is_ascii_digit, digit_value}
use Rattle.rv_lex.specs.Kinds.{Text}
use Rattle.rv_lex.specs.Characters.{is_spaced, is_word_byte, run}
use Rattle.rv_lex.specs.Literals.{is_literal, are_digits, is_base, is_signed_end, sign_place, number, value_of}
use Rattle.rv_lex.specs.Front.{literal_len}
use Rattle.rv_lex.specs.Words.{is_identifier}
use Rattle.rv_lex.proofs.Spaced.{name_parts}

-- digits below a base, and underscores
abbrev below : ℕ → ℕ → Bool
below base b = b == 95 || nat_lt (digit_value b) base

below_is_word_byte : (base b : ℕ) → base ≤ 36 → below base b ≡ true → is_word_byte b ≡ true
below_is_word_byte base b small h = grind (arith, nat_tests)

below_ten_is_digit : (b : ℕ) → (b == 95) ≡ false → below 10 b ≡ true → is_ascii_digit b ≡ true
below_ten_is_digit b apart h = grind (arith, nat_tests)

all_at : (p : ℕ → Bool) (w : Text) (i : ℕ) → i < length w → list_all p w ≡ true → p (get_or w i 0) ≡ true
all_at p [] i h all = absurd (omega arith)
all_at p (b ∷ w) zero h all = (and_parts (p b) (list_all p w) all).0
all_at p (b ∷ w) (suc i) h all = all_at p w i (omega arith) (and_parts (p b) (list_all p w) all).1

digits_parts : (base : ℕ) (w : Text) → are_digits base w ≡ true → (is_spaced w ≡ true) × (list_all (below base) w ≡ true)
unfolding are_digits
digits_parts base w h = and_parts (is_spaced w) (list_all (below base) w) h

spaced_begins : (w : Text) → is_spaced w ≡ true → (0 < length w) × ((slice_index w 0 == 95) ≡ false)
unfolding is_spaced
spaced_begins [] h = absurd cc
spaced_begins (b ∷ w) h =
    (omega arith, elim (cases_Bool (b == 95)) as (λ _. (b == 95) ≡ false) [ inl line ↦ absurd (both_ways false refl (rw line at h)) | inr other ↦ other ])

digits_first : (w : Text) → are_digits 10 w ≡ true → is_ascii_digit (slice_index w 0) ≡ true
digits_first w h =
    let p = digits_parts 10 w h in
    let s = spaced_begins w p.0 in
    below_ten_is_digit (slice_index w 0) s.1 (all_at (below 10) w 0 s.0 p.1)

digit_values : (base : ℕ) (w : Text) (i : ℕ) → base ≤ 36 → are_digits base w ≡ true → i < length w → is_word_byte (get_or w i 0) ≡ true
digit_values base w i small h within = below_is_word_byte base (get_or w i 0) small (all_at (below base) w i within (digits_parts base w h).1)

-- the parts of a based literal
pub record BasedParts (w : Text) : Type 0 where
  pub sign : sign_place w < length w
  pub base : are_digits 10 (take (sign_place w) w) ≡ true
  pub small : number 10 (take (sign_place w) w) ≤ 16
  pub last : slice_index (drop (sign_place w + 1) w) (length (drop (sign_place w + 1) w) - 1) ≡ 35
  pub digits : are_digits (number 10 (take (sign_place w) w)) (take (length (drop (sign_place w + 1) w) - 1) (drop (sign_place w + 1) w)) ≡ true

base_parts : (w : Text) → is_base w ≡ true → (are_digits 10 w ≡ true) × (number 10 w ≤ 16)
unfolding is_base
base_parts w h =
    let a = and_parts (are_digits 10 w && nat_le 2 (number 10 w)) (nat_le (number 10 w) 16) h in
    ((and_parts (are_digits 10 w) (nat_le 2 (number 10 w)) a.0).0, leb-true (number 10 w) 16 a.1)

end_parts : (base : ℕ) (w : Text) → is_signed_end base w ≡ true → (slice_index w (length w - 1) ≡ 35) × (are_digits base (take (length w - 1) w) ≡ true)
unfolding is_signed_end
end_parts base w h =
    let a = and_parts (slice_index w (length w - 1) == 35) (are_digits base (take (length w - 1) w)) h in
    (eqb-true (slice_index w (length w - 1)) 35 a.0, a.1)

sign_within : (w : Text) → sign_place w ≤ length w
unfolding sign_place
sign_within w = prefix_len-le-length (λ b. not (b == 35)) w

sign_at : (w : Text) → sign_place w < length w → get_or w (sign_place w) 0 ≡ 35
unfolding sign_place
sign_at w h = eqb-true (get_or w (sign_place w) 0) 35 (not-false (get_or w (sign_place w) 0 == 35) (prefix_len_stops (λ b. not (b == 35)) w 0 h))

abbrev Judged : Text → Bool → Type 0
Judged w whole = cond whole (are_digits 10 w) (is_base (take (sign_place w) w) && is_signed_end (number 10 (take (sign_place w) w)) (drop (sign_place w + 1) w)) ≡ true

abbrev pub Either : Text → Type 0
Either w = (are_digits 10 w ≡ true) ⊎ BasedParts w

judged_either : (w : Text) (whole : Bool) → (sign_place w == length w) ≡ whole → Judged w whole → Either w
judged_either w true is h = inl h
judged_either w false is h =
    let a = and_parts (is_base (take (sign_place w) w)) (is_signed_end (number 10 (take (sign_place w) w)) (drop (sign_place w + 1) w)) h in
    let b = base_parts (take (sign_place w) w) a.0 in
    let e = end_parts (number 10 (take (sign_place w) w)) (drop (sign_place w + 1) w) a.1 in
    let apart : sign_place w ≢ length w = eqb-false (sign_place w) (length w) is in
    inr (record { sign = omega (arith, sign_within w, apart); base = b.0; small = b.1; last = e.0; digits = e.1 })

pub literal_either : (w : Text) → is_literal w ≡ true → Either w
unfolding is_literal
literal_either w h =
    judged_either w (sign_place w == length w) refl
    (and_parts (nat_lt (value_of w) 2147483648) (cond (sign_place w == length w) (are_digits 10 w) (is_base (take (sign_place w) w) && is_signed_end (number 10 (take (sign_place w) w)) (drop (sign_place w + 1) w))) h).1

-- a literal begins with a digit
pub either_first : (w : Text) → Either w → is_ascii_digit (slice_index w 0) ≡ true
either_first w (inl plain) = digits_first w plain
either_first w (inr based) =
    let some = (spaced_begins (take (sign_place w) w) (digits_parts 10 (take (sign_place w) w) based.base).0).0 in
    let long : length (take (sign_place w) w) ≡ sign_place w = length-take-le (sign_place w) w (sign_within w) in
    ap is_ascii_digit (sym (get_or-take (sign_place w) w 0 0 (omega arith))) ∙ digits_first (take (sign_place w) w) based.base

-- a front of letters, digits and underscores is no longer than all of them
run_reaches : (z : Text) (m : ℕ) → m ≤ length z → ((i : ℕ) → i < m → is_word_byte (get_or z i 0) ≡ true) → m ≤ run z
run_reaches z m fits all =
    elim (cases_lt (run z) m) as (λ _. m ≤ run z) [
      | inl short ↦ absurd (both_ways (is_word_byte (get_or z (run z) 0)) (prefix_len_stops is_word_byte z 0 (omega arith)) (all (run z) short))
      | inr enough ↦ enough
    ]

-- they end at a number sign
run_to_sign : (z : Text) (m : ℕ) → m < length z → ((i : ℕ) → i < m → is_word_byte (get_or z i 0) ≡ true) → get_or z m 0 ≡ 35 → run z ≡ m
run_to_sign z m fits all sign = prefix_len_is is_word_byte z m 0 (omega arith) all (λ _. ap is_word_byte sign)

-- how far a based literal goes
based_len : (z : Text) (s e : ℕ) → run z ≡ s → get_or z s 0 ≡ 35 → run (drop (s + 1) z) ≡ e → get_or z (s + 1 + e) 0 ≡ 35 → literal_len z ≡ s + 1 + e + 1
unfolding literal_len
based_len z s e first sign second last = rw (first, sign, second, last) refl

pub run_in_literal : (z : Text) → run z ≤ literal_len z
unfolding literal_len
run_in_literal z =
    let end : ℕ = run z + 1 + run (drop (run z + 1) z) in
    let inner : ℕ = cond (slice_index z end == 35) (end + 1) end in
    let reaches : run z ≤ inner = cond_both (slice_index z end == 35) (end + 1) end (λ (n : ℕ). run z ≤ n) (λ _. omega arith) (λ _. omega arith) in
    cond_both (slice_index z (run z) == 35) inner (run z) (λ (n : ℕ). run z ≤ n) (λ _. reaches) (λ _. omega arith)

based_reach : (z w : Text) (m : ℕ) → w ≡ take m z → m ≤ length z → BasedParts w → literal_len z ≡ m
based_reach z w m is fits p =
    let s : ℕ = sign_place w in
    let rest : Text = drop (s + 1) w in
    let r : ℕ = length rest in
    let front : Text = take s w in
    let digits : Text = take (r - 1) rest in
    let long : length w ≡ m = ap length is ∙ length-take-le m z fits in
    let front_long : length front ≡ s = length-take-le s w (omega arith) in
    let rest_long : r ≡ length w - (s + 1) = length-drop (s + 1) w in
    let digits_long : length digits ≡ r - 1 = length-take-le (r - 1) rest (omega arith) in
    let some : 0 < length digits = (spaced_begins digits (digits_parts (number 10 front) digits p.digits).0).0 in
    let same = λ (i : ℕ) (h : i < m). ap (λ l. get_or l i 0) is ∙ get_or-take m z i 0 h in
    let first_digits = λ (i : ℕ) (h : i < s). ap is_word_byte (sym (get_or-take s w i 0 h ∙ same i (omega arith))) ∙ digit_values 10 front i (omega arith) p.base (omega arith) in
    let sign : get_or z s 0 ≡ 35 = sym (same s (omega (arith, p.sign))) ∙ sign_at w p.sign in
    let first : run z ≡ s = run_to_sign z s (omega (arith, p.sign)) first_digits sign in
    let tail : Text = drop (s + 1) z in
    let tail_long : length tail ≡ length z - (s + 1) = length-drop (s + 1) z in
    let at = λ (i : ℕ) (h : i < r). get_or-drop (s + 1) w i 0 ∙ same (s + 1 + i) (omega arith) in
    let small : number 10 front ≤ 36 = omega (arith, p.small) in
    let second_digits = λ (i : ℕ) (h : i < r - 1). ap is_word_byte (get_or-drop (s + 1) z i 0 ∙ sym (get_or-take (r - 1) rest i 0 h ∙ at i (omega arith))) ∙ digit_values (number 10 front) digits i small p.digits (omega arith) in
    let last : get_or z (s + 1 + (r - 1)) 0 ≡ 35 = sym (at (r - 1) (omega arith)) ∙ p.last in
    let second : run tail ≡ r - 1 = run_to_sign tail (r - 1) (omega arith) second_digits (get_or-drop (s + 1) z (r - 1) 0 ∙ last) in
    let reach : literal_len z ≡ s + 1 + (r - 1) + 1 = based_len z s (r - 1) first sign second last in
    omega arith

front_passes : (z : Text) (m : ℕ) → m ≤ length z → ((i : ℕ) → i < m → is_word_byte (get_or (take m z) i 0) ≡ true) → m ≤ run z
front_passes z m fits all = run_reaches z m fits (λ i h. ap is_word_byte (sym (get_or-take m z i 0 h)) ∙ all i h)

pub no_longer_literal : (z : Text) (m : ℕ) → literal_len z < m → m ≤ length z → is_literal (take m z) ≡ true → ⊥
no_longer_literal z m more fits h =
    let w : Text = take m z in
    let long : length w ≡ m = length-take-le m z fits in
    elim (literal_either w h) as (λ _. ⊥) [
      | inl plain ↦
          let all : m ≤ run z = front_passes z m fits (λ i below. digit_values 10 w i (omega arith) plain (omega arith)) in
          absurd (omega (arith, run_in_literal z))
      | inr based ↦ absurd (omega (arith, based_reach z w m refl fits based))
    ]

pub no_longer_name : (z : Text) (m : ℕ) → run z < m → m ≤ length z → is_identifier (take m z) ≡ true → ⊥
no_longer_name z m more fits h =
    let w : Text = take m z in
    let long : length w ≡ m = length-take-le m z fits in
    let whole : run w ≡ length w = (name_parts w h).whole in
    let all : m ≤ run z = front_passes z m fits (λ i below. prefix_len_passes is_word_byte w i 0 (omega arith)) in
    absurd (omega arith)
