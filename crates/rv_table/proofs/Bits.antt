-- The bits of words that are put together, and rows that are made word by word.
use Rattle.std.proofs.Common.{◌≡◌, ◌≢◌, ℕ, suc, ◌+◌, ◌-◌, ◌*◌, ◌/◌, ◌%◌, ◌<◌, ◌≤◌, List, length, get_or, set, Bool, true, false, arith, ap, sym, ◌∙◌, refl, bit_or, w64}
use Rattle.std.specs.Prelude.{◌^◌, ◌==◌, nat_lt, if◌then◌else◌, bit_and, min, max}
use Rattle.std.specs.Int.{bit_at}
use Rattle.std.proofs.lemmas.Bool.Decides.{nat_tests}
use Rattle.std.proofs.lemmas.Grind.{get_or-set_at}
use Rattle.std.proofs.lemmas.List.{get_or-set_other, get_or_past, length-set}
use Rattle.std.proofs.lemmas.Nat.Bits.{bit_at-zero, bit_at-suc, bit_at-lt, bit_at_and, bit_at_or, bit_at_not, bit_at_ones, bit_at_cat_low, bit_at_cat_high, bit_at_clear_same, bit_at_clear_other, bit_at_mask_inside, bit_at_mask_below, ones_shl}
use Rattle.rv_table.specs.Rows.{has, IsWord, without}

-- a mark is taken away, and all others stay

abbrev pub unmarked : List ℕ → ℕ → List ℕ
unmarked ws p = set ws (p / 64) (bit_and (get_or ws (p / 64) 0) (18446744073709551615 - 1 * 2 ^ (p % 64) % 18446744073709551616))

pub unmark_here : (ws : List ℕ) (p : ℕ) → p / 64 < length ws → has (unmarked ws p) p ≡ 0
unmark_here ws p some =
    let small : p % 64 < 64 = omega arith in
    ap (λ n. bit_at n (p % 64)) (get_or-set_at ws (p / 64) (p / 64) (bit_and (get_or ws (p / 64) 0) (18446744073709551615 - 1 * 2 ^ (p % 64) % 18446744073709551616)) 0 refl some)
    ∙ bit_at_clear_same w64 (get_or ws (p / 64) 0) (p % 64) small

pub unmark_other : (ws : List ℕ) (p j : ℕ) → p / 64 < length ws → j ≢ p → has (unmarked ws p) j ≡ has ws j
unmark_other ws p j some h = by_test (j / 64 == p / 64) refl
  where
    by_test : (t : Bool) → (j / 64 == p / 64) ≡ t → has (unmarked ws p) j ≡ has ws j
    by_test true is =
        let same : j / 64 ≡ p / 64 = grind (arith, nat_tests) in
        let apart : j % 64 ≢ p % 64 = λ e. h (omega (arith, same, e)) in
        let small : p % 64 < 64 = omega arith in
        let small' : j % 64 < 64 = omega arith in
        ap (λ n. bit_at n (j % 64)) (get_or-set_at ws (p / 64) (j / 64) (bit_and (get_or ws (p / 64) 0) (18446744073709551615 - 1 * 2 ^ (p % 64) % 18446744073709551616)) 0 same some)
        ∙ bit_at_clear_other w64 (get_or ws (p / 64) 0) (p % 64) small (j % 64) small' apart ∙ ap (λ w. bit_at (get_or ws w 0) (j % 64)) (sym same)
    by_test false is =
        let other : j / 64 ≢ p / 64 = grind (arith, nat_tests) in
        ap (λ n. bit_at n (j % 64)) (get_or-set_other ws (p / 64) (j / 64) (bit_and (get_or ws (p / 64) 0) (18446744073709551615 - 1 * 2 ^ (p % 64) % 18446744073709551616)) 0 other)

-- words whose bits moved

pub up : (word first bit : ℕ) → first < 2 → bit < 63 → bit_at (bit_and word 9223372036854775807 * 2 + first) (bit + 1) ≡ bit_at word bit
up word first bit small less =
    let one : bit + 1 - 1 ≡ bit = omega arith in
    let same : min (bit_at word bit) 1 ≡ bit_at word bit = omega (arith, bit_at-lt word bit) in
    bit_at_cat_high (bit_and word 9223372036854775807) 1 first (bit + 1) small (omega arith)
    ∙ ap (bit_at (bit_and word 9223372036854775807)) one
    ∙ bit_at_and word 9223372036854775807 bit
    ∙ ap (min (bit_at word bit)) (bit_at_ones 63 bit less)
    ∙ same

pub down : (word next bit : ℕ) → bit < 63 → bit_at (next % 2 * 9223372036854775808 + word / 2) bit ≡ bit_at word (bit + 1)
down word next bit less =
    let more : suc bit ≡ bit + 1 = omega arith in
    bit_at_cat_low (next % 2) 63 (word / 2) bit less ∙ sym (bit_at-suc word bit) ∙ ap (bit_at word) more

-- the bits of one word before a place, and those of another from there on

abbrev pub mask_from : ℕ → ℕ
mask_from place = 18446744073709551615 * 2 ^ place % 18446744073709551616

mask_is : (place : ℕ) → place ≤ 64 → mask_from place ≡ 2 ^ 64 - 2 ^ place
mask_is place few = ones_shl 64 place few

mask_before : (place bit : ℕ) → place ≤ 64 → bit < place → bit_at (mask_from place) bit ≡ 0
mask_before place bit few less = ap (λ n. bit_at n bit) (mask_is place few) ∙ bit_at_mask_below place 64 bit less

mask_behind : (place bit : ℕ) → place ≤ 64 → place ≤ bit → bit < 64 → bit_at (mask_from place) bit ≡ 1
mask_behind place bit few past less = ap (λ n. bit_at n bit) (mask_is place few) ∙ bit_at_mask_inside place 64 bit past less

mask_small : (place : ℕ) → mask_from place < 2 ^ 64
mask_small place = omega arith

abbrev pub joined : ℕ → ℕ → ℕ → ℕ
joined before behind place = bit_or (bit_and before (18446744073709551615 - mask_from place)) (bit_and behind (mask_from place))

joined_bit : (before behind place bit : ℕ) → bit < 64 → bit_at (joined before behind place) bit ≡ max (min (bit_at before bit) (1 - bit_at (mask_from place) bit)) (min (bit_at behind bit) (bit_at (mask_from place) bit))
joined_bit before behind place bit less =
    bit_at_or (bit_and before (18446744073709551615 - mask_from place)) (bit_and behind (mask_from place)) bit
    ∙ (λ i. max (bit_at_and before (18446744073709551615 - mask_from place) bit i) (bit_at_and behind (mask_from place) bit i))
    ∙ ap (λ n. max (min (bit_at before bit) n) (min (bit_at behind bit) (bit_at (mask_from place) bit))) (bit_at_not w64 (mask_from place) bit (mask_small place) less)

first_bit : (x y : ℕ) → x < 2 → max (min x (1 - 0)) (min y 0) ≡ x
first_bit x y small = omega (arith, small)

second_bit : (x y : ℕ) → y < 2 → max (min x (1 - 1)) (min y 1) ≡ y
second_bit x y small = omega (arith, small)

pub joined_before : (before behind place bit : ℕ) → place < 64 → bit < place → bit_at (joined before behind place) bit ≡ bit_at before bit
joined_before before behind place bit few less =
    joined_bit before behind place bit (omega arith)
    ∙ ap (λ m. max (min (bit_at before bit) (1 - m)) (min (bit_at behind bit) m)) (mask_before place bit (omega arith) less)
    ∙ first_bit (bit_at before bit) (bit_at behind bit) (bit_at-lt before bit)

pub joined_behind : (before behind place bit : ℕ) → place < 64 → place ≤ bit → bit < 64 → bit_at (joined before behind place) bit ≡ bit_at behind bit
joined_behind before behind place bit few past less =
    joined_bit before behind place bit less
    ∙ ap (λ m. max (min (bit_at before bit) (1 - m)) (min (bit_at behind bit) m)) (mask_behind place bit (omega arith) past less)
    ∙ second_bit (bit_at before bit) (bit_at behind bit) (bit_at-lt behind bit)

-- rows that are made word by word

-- the words so far
abbrev pub AreWords : (ℕ → ℕ) → List ℕ → ℕ → Type 0
AreWords marks row w = (length row ≡ 8) × ((v : ℕ) → v < w → IsWord marks v (get_or row v 0))

pub words_more : (marks : ℕ → ℕ) (row : List ℕ) (w word : ℕ) → w < 8 → AreWords marks row w → IsWord marks w word → AreWords marks (set row w word) (w + 1)
words_more marks row w word less (long, are) is = (length-set row w word ∙ long, λ v within. by_test v within (v == w) refl)
  where
    by_test : (v : ℕ) → v < w + 1 → (t : Bool) → (v == w) ≡ t → IsWord marks v (get_or (set row w word) v 0)
    by_test v within true e = λ bit small.
        let same : v ≡ w = grind (arith, nat_tests) in
        ap (λ n. bit_at n bit) (get_or-set_at row w v word 0 same (omega (arith, long, less))) ∙ is bit small ∙ ap (λ n. marks (64 * n + bit)) (sym same)
    by_test v within false e = λ bit small.
        let other : v ≢ w = grind (arith, nat_tests) in
        ap (λ n. bit_at n bit) (get_or-set_other row w v word 0 other) ∙ are v (omega (arith, within, other)) bit small

pub marks_are : (marks : ℕ → ℕ) (row : List ℕ) (place : ℕ) → AreWords marks row 8 → place < 512 → has row place ≡ marks place
marks_are marks row place (long, are) less =
    let whole : 64 * (place / 64) + place % 64 ≡ place = omega arith in
    are (place / 64) (omega (arith, less)) (place % 64) (omega arith) ∙ ap marks whole

pub marks_end : (row : List ℕ) (place : ℕ) → length row ≡ 8 → 512 ≤ place → has row place ≡ 0
marks_end row place long past =
    ap (λ n. bit_at n (place % 64)) (get_or_past row (place / 64) 0 (omega (arith, long, past))) ∙ bit_at-zero (place % 64)

-- a word of the marks without that of a place in it

at_word : (ws : List ℕ) (w bit : ℕ) → bit < 64 → has ws (64 * w + bit) ≡ bit_at (get_or ws w 0) bit
at_word ws w bit less =
    let whole : (64 * w + bit) / 64 ≡ w = omega (arith, less) in
    let rest : (64 * w + bit) % 64 ≡ bit = omega (arith, less) in
    λ i. bit_at (get_or ws (whole i) 0) (rest i)

pub word_less : (ws : List ℕ) (w place moved result : ℕ) → place / 64 ≡ w →
    ((bit : ℕ) → bit < 63 → bit_at moved bit ≡ bit_at (get_or ws w 0) (bit + 1)) → bit_at moved 63 ≡ bit_at (get_or ws (w + 1) 0) 0 →
    ((bit : ℕ) → bit < place % 64 → bit_at result bit ≡ bit_at (get_or ws w 0) bit) →
    ((bit : ℕ) → place % 64 ≤ bit → bit < 64 → bit_at result bit ≡ bit_at moved bit) → IsWord (without place ws) w result
word_less ws w place moved result here others last before behind = λ bit less. by_side bit less (nat_lt (64 * w + bit) place) refl
  where
    by_last : (bit : ℕ) → bit < 64 → (t : Bool) → nat_lt bit 63 ≡ t → bit_at moved bit ≡ has ws (64 * w + bit + 1)
    by_last bit less true is =
        let inner : bit < 63 = grind (arith, nat_tests) in
        let more : 64 * w + (bit + 1) ≡ 64 * w + bit + 1 = omega arith in
        others bit inner ∙ sym (at_word ws w (bit + 1) (omega (arith, inner))) ∙ ap (has ws) more
    by_last bit less false is =
        let past : 63 ≤ bit = grind (arith, nat_tests) in
        let end : bit ≡ 63 = omega (arith, past, less) in
        let more : 64 * (w + 1) + 0 ≡ 64 * w + bit + 1 = omega (arith, end) in
        ap (bit_at moved) end ∙ last ∙ sym (at_word ws (w + 1) 0 (omega arith)) ∙ ap (has ws) more

    by_side : (bit : ℕ) → bit < 64 → (t : Bool) → nat_lt (64 * w + bit) place ≡ t → bit_at result bit ≡ (if t then has ws (64 * w + bit) else has ws (64 * w + bit + 1))
    by_side bit less true is =
        let under : 64 * w + bit < place = grind (arith, nat_tests) in
        before bit (omega (arith, here, under)) ∙ sym (at_word ws w bit less)
    by_side bit less false is =
        let past : place ≤ 64 * w + bit = grind (arith, nat_tests) in
        behind bit (omega (arith, here, past)) less ∙ by_last bit less (nat_lt bit 63) refl
