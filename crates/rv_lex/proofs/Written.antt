-- Identifiers as they were written and decimal literals are cut as they were where a space follows them.
use Rattle.std.proofs.Common.{◌≡◌, ℕ, ◌+◌, ◌*◌, ◌/◌, ◌%◌, ◌<◌, ◌≤◌, Bool, true, false, cond, not, ◌||◌, ◌==◌, nat_lt, min, List, [], ◌∷◌, ◌++◌, length, slice_index, Option, Some, None, unwrap_or, map, refl, sym, ap, ◌∙◌, subst, arith, length-append}
use Rattle.std.proofs.lemmas.Bool.{eq-eqb, and_parts, and_from, or_left, ltb-true, lt-ltb, cond-true}
use Rattle.std.proofs.lemmas.Bool.Decides.{nat_tests}
use Rattle.std.proofs.lemmas.Fmt.{decimal_by_steps}
use Rattle.std.proofs.lemmas.List.Sums.{fold-append}
use Rattle.std.specs.Fmt.{decimal}
use Rattle.std.specs.List.{list_all, prefix_len}
use Rattle.std.specs.Str.{str_eq_ignore_ascii_case}
use Rattle.std.specs.Char.{is_ascii_digit, is_ascii_alphanumeric, digit_value}
use Rattle.rv_lex.specs.declared.kind.Kind.{Kind}
use Rattle.rv_lex.specs.declared.kind.Kind.TheVariants as k
use Rattle.rv_lex.specs.Kinds.{Text, reserved, compound, simple, kind_in, kind_spelled, spelling}
use Rattle.rv_lex.specs.Characters.{is_spaced, is_spaced_after, is_word_byte}
use Rattle.rv_lex.specs.Literals.{number, sign_place, value_of, are_digits, is_literal}
use Rattle.rv_lex.specs.Words.{IsWord, name, literal, double, single, name_kind}
use Rattle.rv_lex.specs.Spaced.{Spelled, IsSpelled}
use Rattle.rv_lex.proofs.Lookup.{both}
use Rattle.rv_lex.proofs.Spaced.{name_spelled, plain_spelled, number_word, digit_is_alphanumeric}
use Rattle.rv_lex.proofs.Spellings.{has_spelling}

-- KINDS IN TABLES
found_if : (test : Kind → Bool) (e : Text × Kind) (es : List (Text × Kind)) (w : Text) (found : Kind) (b : Bool) → test e.1 ≡ true → (kind_in es w ≡ Some found → test found ≡ true) → cond b (Some e.1) (kind_in es w) ≡ Some found → test found ≡ true
found_if test e es w found true passes more h = let s : e.1 ≡ found = cc in ap test (sym s) ∙ passes
found_if test e es w found false passes more h = more h

kind_in-kind : (test : Kind → Bool) (entries : List (Text × Kind)) (w : Text) (found : Kind) → list_all (λ e. test e.1) entries ≡ true → kind_in entries w ≡ Some found → test found ≡ true
kind_in-kind test [] w found all h = absurd cc
kind_in-kind test (e ∷ es) w found all h =
    let a = both (test e.1) (list_all (λ e. test e.1) es) all in
    found_if test e es w found (str_eq_ignore_ascii_case w e.0) a.0 (kind_in-kind test es w found a.1) h

compound-spelling : (w : Text) (found : Kind) → kind_spelled compound w ≡ Some found → has_spelling found ≡ true
unfolding kind_spelled compound
compound-spelling w found h = kind_in-kind has_spelling (map (λ kind. (spelling kind, kind)) compound) w found refl h

simple-spelling : (w : Text) (found : Kind) → kind_spelled simple w ≡ Some found → has_spelling found ≡ true
unfolding kind_spelled simple
simple-spelling w found h = kind_in-kind has_spelling (map (λ kind. (spelling kind, kind)) simple) w found refl h

false_is_true : (P : Type 0) → false ≡ true → P
false_is_true P h = absurd cc

literal_is_no_identifier : (P : Type 0) (kind : Kind) → kind ≡ k.Literal → kind ≡ k.Identifier → P
literal_is_no_identifier P kind a b = absurd cc

reserved-spelling : (w : Text) (found : Kind) → kind_spelled reserved w ≡ Some found → has_spelling found ≡ true
unfolding kind_spelled reserved
reserved-spelling w found h = kind_in-kind has_spelling (map (λ kind. (spelling kind, kind)) reserved) w found refl h

found_is_no_literal : (P : Type 0) (w : Text) (found : Option Kind) → found ≡ kind_spelled reserved w → k.Literal ≡ unwrap_or found k.Identifier → P
found_is_no_literal P w None is h = absurd cc
found_is_no_literal P w (Some kind) is h = false_is_true P (ap has_spelling h ∙ reserved-spelling w kind (sym is))

name_is_no_literal : (P : Type 0) (w : Text) → k.Literal ≡ name_kind w → P
unfolding name_kind
name_is_no_literal P w h = found_is_no_literal P w (kind_spelled reserved w) refl h

abbrev pub identifier : Text → Spelled
identifier w = record { kind = k.Identifier; text = w }

-- a word that is an identifier
pub identifier_spelled : (kind : Kind) (w : Text) → IsWord kind w → kind ≡ k.Identifier → IsSpelled (identifier w)
identifier_spelled kind w (name h is) e = subst (λ (x : Kind). IsSpelled (record { kind = x; text = w })) (sym is ∙ e) (name_spelled w h)
identifier_spelled kind w (literal h is) e = literal_is_no_identifier (IsSpelled (identifier w)) kind is e
identifier_spelled kind w (double h) e = false_is_true (IsSpelled (identifier w)) (ap has_spelling (sym e) ∙ compound-spelling w kind h)
identifier_spelled kind w (single h) e = false_is_true (IsSpelled (identifier w)) (ap has_spelling (sym e) ∙ simple-spelling w kind h)

literal_value : (w : Text) → is_literal w ≡ true → value_of w < 2147483648
unfolding is_literal
literal_value w h = ltb-true (value_of w) 2147483648 (and_parts (nat_lt (value_of w) 2147483648) _ h).0

-- a word that is a literal
pub literal_small : (kind : Kind) (w : Text) → IsWord kind w → kind ≡ k.Literal → value_of w < 2147483648
literal_small kind w (name h is) e = name_is_no_literal (value_of w < 2147483648) w (sym e ∙ is)
literal_small kind w (literal h is) e = literal_value w h
literal_small kind w (double h) e = false_is_true (value_of w < 2147483648) (ap has_spelling (sym e) ∙ compound-spelling w kind h)
literal_small kind w (single h) e = false_is_true (value_of w < 2147483648) (ap has_spelling (sym e) ∙ simple-spelling w kind h)

-- DECIMAL DIGITS
abbrev step : ℕ → ℕ → ℕ
step n b = cond (is_ascii_alphanumeric b) (min (10 * n + digit_value b) 2147483648) n

-- the digits' text, and the number that they write
abbrev Decimal : ℕ → Text → Type 0
Decimal n w = (0 < length w) × (list_all is_ascii_digit w ≡ true) × (n < 2147483648 → number 10 w ≡ n)

digit_byte : (d : ℕ) → d < 10 → is_ascii_digit (48 + d) ≡ true
digit_byte d small = grind (arith, nat_tests)

digit_byte_value : (d : ℕ) → d < 10 → digit_value (48 + d) ≡ d
digit_byte_value d small = grind (arith, nat_tests)

number_one : (d : ℕ) → d < 10 → number 10 ((48 + d) ∷ []) ≡ d
unfolding number
number_one d small = rw (digit_is_alphanumeric (48 + d) (digit_byte d small), digit_byte_value d small) (omega arith)

number_push : (w : Text) (d : ℕ) → d < 10 → number 10 (w ++ (48 + d) ∷ []) ≡ min (10 * number 10 w + d) 2147483648
unfolding number
number_push w d small =
    fold-append step 0 w ((48 + d) ∷ []) ∙ (rw (digit_is_alphanumeric (48 + d) (digit_byte d small), digit_byte_value d small) refl)

list_all-append : (p : ℕ → Bool) (xs ys : Text) → list_all p xs ≡ true → list_all p ys ≡ true → list_all p (xs ++ ys) ≡ true
list_all-append p [] ys h g = g
list_all-append p (x ∷ xs) ys h g =
    let a = both (p x) (list_all p xs) h in
    and_from (p x) (list_all p (xs ++ ys)) a.0 (list_all-append p xs ys a.1 g)

one_digit : (n : ℕ) → n < 10 → Decimal n ((48 + n) ∷ [])
one_digit n small = (omega arith, and_from (is_ascii_digit (48 + n)) true (digit_byte n small) refl, λ _. number_one n small)

more_digits : (n : ℕ) (ds : Text) → 10 ≤ n → Decimal (n / 10) ds → Decimal n (ds ++ (48 + n % 10) ∷ [])
more_digits n ds big h = (
  omega (arith, length-append ds ((48 + n % 10) ∷ [])),
  list_all-append is_ascii_digit ds ((48 + n % 10) ∷ []) h.1 (and_from (is_ascii_digit (48 + n % 10)) true (digit_byte (n % 10) (omega arith)) refl),
  λ small. let inner : number 10 ds ≡ n / 10 = h.2 (omega arith) in number_push ds (n % 10) (omega arith) ∙ (rw inner (omega arith)),
)

decimal_is : (n : ℕ) → n < 2147483648 → Decimal n (decimal n)
decimal_is n small = decimal_by_steps Decimal one_digit more_digits n (omega arith)

-- WHAT DIGITS ARE
digit_is_word_byte : (b : ℕ) → is_ascii_digit b ≡ true → is_word_byte b ≡ true
digit_is_word_byte b h = or_left (is_ascii_alphanumeric b) (b == 95) (digit_is_alphanumeric b h)

digit_is_no_sign : (b : ℕ) → is_ascii_digit b ≡ true → not (b == 35) ≡ true
digit_is_no_sign b h = grind (arith, nat_tests)

digit_is_no_line : (b : ℕ) → is_ascii_digit b ≡ true → (b == 95) ≡ false
digit_is_no_line b h = grind (arith, nat_tests)

digit_is_below : (b : ℕ) → is_ascii_digit b ≡ true → (b == 95 || nat_lt (digit_value b) 10) ≡ true
digit_is_below b h = grind (arith, nat_tests)

all_prefix : (p q : ℕ → Bool) → ((b : ℕ) → p b ≡ true → q b ≡ true) → (w : Text) → list_all p w ≡ true → prefix_len q w ≡ length w
all_prefix p q each [] h = refl
all_prefix p q each (b ∷ w) h =
    let a = both (p b) (list_all p w) h in
    cond-true (q b) (1 + prefix_len q w) 0 (each b a.0) ∙ (rw (all_prefix p q each w a.1) (omega arith))

all_all : (p q : ℕ → Bool) → ((b : ℕ) → p b ≡ true → q b ≡ true) → (w : Text) → list_all p w ≡ true → list_all q w ≡ true
all_all p q each [] h = refl
all_all p q each (b ∷ w) h =
    let a = both (p b) (list_all p w) h in
    and_from (q b) (list_all q w) (each b a.0) (all_all p q each w a.1)

digits_spaced : (w : Text) → list_all is_ascii_digit w ≡ true → is_spaced_after false w ≡ true
digits_spaced [] h = refl
digits_spaced (b ∷ w) h =
    let a = both (is_ascii_digit b) (list_all is_ascii_digit w) h in
    rw (digit_is_no_line b a.0) (digits_spaced w a.1)

some_digits_spaced : (w : Text) → 0 < length w → list_all is_ascii_digit w ≡ true → is_spaced w ≡ true
unfolding is_spaced
some_digits_spaced [] some h = absurd (omega arith)
some_digits_spaced (b ∷ w) some h =
    let a = both (is_ascii_digit b) (list_all is_ascii_digit w) h in
    rw (digit_is_no_line b a.0) (digits_spaced w a.1)

digits_have_no_sign : (w : Text) → list_all is_ascii_digit w ≡ true → sign_place w ≡ length w
unfolding sign_place
digits_have_no_sign w h = all_prefix is_ascii_digit (λ b. not (b == 35)) digit_is_no_sign w h

plain_value : (w : Text) → list_all is_ascii_digit w ≡ true → value_of w ≡ number 10 w
unfolding value_of
plain_value w h = rw (digits_have_no_sign w h, eq-eqb (length w) (length w) refl) refl

plain_literal : (w : Text) → 0 < length w → list_all is_ascii_digit w ≡ true → value_of w < 2147483648 → is_literal w ≡ true
unfolding is_literal are_digits
plain_literal w some h small =
    rw (lt-ltb (value_of w) 2147483648 small, digits_have_no_sign w h, eq-eqb (length w) (length w) refl, some_digits_spaced w some h, all_all is_ascii_digit (λ b. b == 95 || nat_lt (digit_value b) 10) digit_is_below w h) refl

first_digit : (w : Text) → 0 < length w → list_all is_ascii_digit w ≡ true → is_ascii_digit (slice_index w 0) ≡ true
first_digit [] some h = absurd (omega arith)
first_digit (b ∷ w) some h = (both (is_ascii_digit b) (list_all is_ascii_digit w) h).0

-- the decimal digits of a number have it as their value
pub decimal_value : (n : ℕ) → n < 2147483648 → value_of (decimal n) ≡ n
decimal_value n small = let d = decimal_is n small in plain_value (decimal n) d.1 ∙ d.2 small

-- and they are a literal
pub decimal_spelled : (n : ℕ) → n < 2147483648 → IsSpelled (number_word (decimal n))
decimal_spelled n small =
    let d = decimal_is n small in
    plain_spelled (decimal n) (first_digit (decimal n) d.0 d.1) (all_prefix is_ascii_digit is_word_byte digit_is_word_byte (decimal n) d.1)
    (plain_literal (decimal n) d.0 d.1 (subst (λ (x : ℕ). x < 2147483648) (sym (decimal_value n small)) small))
