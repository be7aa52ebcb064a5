-- What `parse` gives for 1 to 18 digits.
use Rattle.std.proofs.Common.{◌≡◌, ℕ, ◌<◌, ◌≤◌, ◌^◌, true, List, length, refl, ap, arith, rules}
use Rattle.std.specs.Prelude.{nat_lt, nat_le, Result, Ok, Err, Some}
use Rattle.std.specs.Str.{all_ascii_digits}
use Rattle.std.specs.Str.Parse.{ParsesUnsigned}
use Rattle.std.proofs.lemmas.Bool.Decides.{nat_tests}
use Rattle.std.proofs.lemmas.Str.Parse.{IsNumeralModel, numerals_by_fold, parse_gives, digits_value_short}
use Rattle.rv_text.specs.Numbers.{read_on, is_natural, natural_of}

own : IsNumeralModel (λ ds. all_ascii_digits ds ≡ true) (read_on 0)
own = numerals_by_fold _ (search rules) read_on (search rules)

parsed : {E : Type 0} (bs : List ℕ) (r : Result ℕ E) → ParsesUnsigned 64 10 bs r → all_ascii_digits bs ≡ true → 0 < length bs → length bs ≤ 18 → r ≡ Ok (read_on 0 bs)
parsed bs r h p some few = parse_gives own 64 bs r h p some (omega (arith, digits_value_short own bs 18 p few))

pub tested : (bs : List ℕ) → all_ascii_digits bs ≡ true → 0 < length bs → length bs ≤ 18 → is_natural bs ≡ true
tested bs p some few =
    let a : nat_lt 0 (length bs) ≡ true = grind (arith, nat_tests, some) in
    let b : nat_le (length bs) 18 ≡ true = grind (arith, nat_tests, few) in
    rw (a, b, p) refl

pub natural_parsed : {E : Type 0} (bs : List ℕ) (r : Result ℕ E) (n : ℕ) → ParsesUnsigned 64 10 bs r → r ≡ Ok n → all_ascii_digits bs ≡ true → 0 < length bs → length bs ≤ 18 → Some n ≡ natural_of bs
natural_parsed bs r n h e p some few =
    let is = parsed bs r h p some few in
    let same : n ≡ read_on 0 bs = cc in
    rw (tested bs p some few) (ap (λ (k : ℕ). Some k) same)

pub natural_small : {E : Type 0} (bs : List ℕ) (r : Result ℕ E) (n : ℕ) → ParsesUnsigned 64 10 bs r → r ≡ Ok n → all_ascii_digits bs ≡ true → 0 < length bs → length bs ≤ 18 → n < 10 ^ 18
natural_small bs r n h e p some few =
    let is = parsed bs r h p some few in
    let same : n ≡ read_on 0 bs = cc in
    omega (arith, same, digits_value_short own bs 18 p few)

pub never : {E : Type 0} (bs : List ℕ) (r : Result ℕ E) (x : E) → ParsesUnsigned 64 10 bs r → r ≡ Err x → all_ascii_digits bs ≡ true → 0 < length bs → length bs ≤ 18 → ⊥
never bs r x h e p some few = let is = parsed bs r h p some few in cc
