-- A mark is set, and all others stay.
use Rattle.std.proofs.Common.{◌≡◌, ◌≢◌, ℕ, ◌+◌, ◌*◌, ◌/◌, ◌%◌, ◌<◌, ◌≤◌, List, length, get_or, set, Bool, true, false, arith, ap, sym, ◌∙◌, refl, bit_or, w64}
use Rattle.std.specs.Prelude.{◌^◌, ◌==◌, bit_and, min}
use Rattle.std.specs.Int.{bit_at, trailing_zeros}
use Rattle.std.proofs.lemmas.Bool.Decides.{nat_tests}
use Rattle.std.proofs.lemmas.Grind.{get_or-set_at}
use Rattle.std.proofs.lemmas.List.{get_or-set_other}
use Rattle.std.proofs.lemmas.Nat.Bits.{bit_at_set_same, bit_at_set_other, bit_at_and, bit_at-zero, bit_at-lt, bit_at-trailing_zeros}
use Rattle.std.proofs.lemmas.Nat.{and_le_l}
use Rattle.rv_table.specs.Rows.{has, Lowest}

abbrev pub marked : List ℕ → ℕ → List ℕ
marked ws p = set ws (p / 64) (bit_or (get_or ws (p / 64) 0) (1 * 2 ^ (p % 64) % 18446744073709551616))

pub mark_here : (ws : List ℕ) (p : ℕ) → p / 64 < length ws → has (marked ws p) p ≡ 1
mark_here ws p some =
    let small : p % 64 < 64 = omega arith in
    ap (λ n. bit_at n (p % 64)) (get_or-set_at ws (p / 64) (p / 64) (bit_or (get_or ws (p / 64) 0) (1 * 2 ^ (p % 64) % 18446744073709551616)) 0 refl some)
    ∙ bit_at_set_same w64 (get_or ws (p / 64) 0) (p % 64) small

pub mark_other : (ws : List ℕ) (p j : ℕ) → p / 64 < length ws → j ≢ p → has (marked ws p) j ≡ has ws j
mark_other ws p j some h = by_test (j / 64 == p / 64) refl
  where
    by_test : (t : Bool) → (j / 64 == p / 64) ≡ t → has (marked ws p) j ≡ has ws j
    by_test true is =
        let same : j / 64 ≡ p / 64 = grind (arith, nat_tests) in
        let apart : j % 64 ≢ p % 64 = λ e. h (omega (arith, same, e)) in
        let small : p % 64 < 64 = omega arith in
        ap (λ n. bit_at n (j % 64)) (get_or-set_at ws (p / 64) (j / 64) (bit_or (get_or ws (p / 64) 0) (1 * 2 ^ (p % 64) % 18446744073709551616)) 0 same some)
        ∙ bit_at_set_other w64 (get_or ws (p / 64) 0) (p % 64) small (j % 64) apart ∙ ap (λ w. bit_at (get_or ws w 0) (j % 64)) (sym same)
    by_test false is =
        let other : j / 64 ≢ p / 64 = grind (arith, nat_tests) in
        ap (λ n. bit_at n (j % 64)) (get_or-set_other ws (p / 64) (j / 64) (bit_or (get_or ws (p / 64) 0) (1 * 2 ^ (p % 64) % 18446744073709551616)) 0 other)

-- the lowest common mark of a word
pub word_of : (w t : ℕ) → t < 64 → (64 * w + t) / 64 ≡ w
word_of w t less = omega (arith, less)

pub both_one : (x y : ℕ) → x < 2 → y < 2 → min x y ≡ 1 → (x ≡ 1) × (y ≡ 1)
both_one x y p q e = (omega (arith, p, q, e), omega (arith, p, q, e))

pub none_before : (us ts : List ℕ) (w t : ℕ) → t ≤ 64 → ((j : ℕ) → j < 64 * w → min (has us j) (has ts j) ≡ 0) → ((i : ℕ) → i < t → bit_at (bit_and (get_or us w 0) (get_or ts w 0)) i ≡ 0) →
    (j : ℕ) → j < 64 * w + t → min (has us j) (has ts j) ≡ 0
none_before us ts w t small before low j less = by_test (j / 64 == w) refl
  where
    by_test : (b : Bool) → (j / 64 == w) ≡ b → min (has us j) (has ts j) ≡ 0
    by_test true is =
        let same : j / 64 ≡ w = grind (arith, nat_tests) in
        let under : j % 64 < t = omega (arith, same, less) in
        ap (λ v. min (bit_at (get_or us v 0) (j % 64)) (bit_at (get_or ts v 0) (j % 64))) same ∙ sym (bit_at_and (get_or us w 0) (get_or ts w 0) (j % 64)) ∙ low (j % 64) under
    by_test false is =
        let other : j / 64 ≢ w = grind (arith, nat_tests) in
        before j (omega (arith, less, small, other))

-- no common mark in a word more
pub none_more : (us ts : List ℕ) (w : ℕ) → ((j : ℕ) → j < 64 * w → min (has us j) (has ts j) ≡ 0) → bit_and (get_or us w 0) (get_or ts w 0) ≡ 0 → (j : ℕ) → j < 64 * (w + 1) → min (has us j) (has ts j) ≡ 0
none_more us ts w before zero j less =
    none_before us ts w 64 (omega arith) before (λ i under. ap (λ n. bit_at n i) zero ∙ bit_at-zero i) j (omega (arith, less))

pub lowest : (a b : ℕ) → a < 2 ^ 64 → bit_and a b ≢ 0 → Lowest a b (trailing_zeros w64 (bit_and a b))
lowest a b small some =
    let more : 0 < bit_and a b = grind (arith, some) in
    let less : bit_and a b < 2 ^ 64 = omega (arith, small, and_le_l a b) in
    let t : ℕ = trailing_zeros w64 (bit_and a b) in
    let low = bit_at-trailing_zeros w64 (bit_and a b) more less in
    let one : min (bit_at a t) (bit_at b t) ≡ 1 = sym (bit_at_and a b t) ∙ low.1 in
    let both = both_one (bit_at a t) (bit_at b t) (bit_at-lt a t) (bit_at-lt b t) one in
    record { small = low.0; mine = both.0; yours = both.1; none = low.2 }
