-- A tally, once something is counted or isn't, as long as numbers go so far.
use Rattle.std.proofs.Common.{◌≡◌, ◌≤◌, ◌<◌, ◌+◌, ◌-◌, ◌^◌, ℕ, suc, Bool, true, false, refl, ap, ◌∙◌, arith, if◌then◌else◌}
use Rattle.std.specs.Prelude.{◌&&◌, ◌==◌, min}
use Rattle.std.proofs.lemmas.Bool.Decides.{nat_tests}
use Rattle.rv_tallied.specs.Tallies.{more, once_more, one_more}
use Rattle.rv_tallied.specs.declared.tallies.Tally.{Tally}

pub one_is : (n k : ℕ) → n ≤ k → suc k < 2 ^ 64 → one_more n ≡ n + 1
one_is n k le lt = omega arith

none_is : (n : ℕ) → n ≡ n + 0
none_is n = omega arith

-- a number goes so far
pub one_if_is : (t b : Bool) (n k : ℕ) → n ≤ k → suc k < 2 ^ 64 → (if t then (if b then one_more n else n) else n) ≡ n + (if t && b then 1 else 0)
one_if_is true true n k le lt = one_is n k le lt
one_if_is true false n k le lt = none_is n
one_if_is false b n k le lt = none_is n

abbrev tally : ℕ → ℕ → Tally
tally times granted = record { times = times; granted = granted }

same : (m n i j : ℕ) → m ≡ i → n ≡ j → tally m n ≡ tally i j
same m n i j e f = ap (λ (x : ℕ). tally x n) e ∙ ap (λ (x : ℕ). tally i x) f

pub tally_is : (t b a : Bool) (m n k : ℕ) → m ≤ k → n ≤ k → suc k < 2 ^ 64 →
    (let old : Tally = record { times = m; granted = n } in if t then (if b then once_more a old else old) else old)
    ≡ record { times = m + (if t && b then 1 else 0); granted = n + (if (t && b) && a then 1 else 0) }
tally_is true true true m n k le lt few = same (one_more m) (one_more n) (m + 1) (n + 1) (one_is m k le few) (one_is n k lt few)
tally_is true true false m n k le lt few = same (one_more m) n (m + 1) (n + 0) (one_is m k le few) (none_is n)
tally_is true false a m n k le lt few = same m n (m + 0) (n + 0) (none_is m) (none_is n)
tally_is false b a m n k le lt few = same m n (m + 0) (n + 0) (none_is m) (none_is n)

-- More at once, and once more

one_later : (t n : ℕ) → min (one_more t + n) (2 ^ 64 - 1) ≡ one_more (min (t + n) (2 ^ 64 - 1))
one_later t n = omega arith

one_in : (t n : ℕ) → min (t + one_more n) (2 ^ 64 - 1) ≡ one_more (min (t + n) (2 ^ 64 - 1))
one_in t n = omega arith

one_of_none : (t n : ℕ) → n ≡ 0 → min (t + one_more n) (2 ^ 64 - 1) ≡ one_more t
one_of_none t n e = omega arith

pub more_swaps : (n : ℕ) (a b : Bool) (t : Tally) → more n a (once_more b t) ≡ once_more b (more n a t)
more_swaps n true true t = same (min (one_more t.times + n) (2 ^ 64 - 1)) (min (one_more t.granted + n) (2 ^ 64 - 1)) (one_more (min (t.times + n) (2 ^ 64 - 1))) (one_more (min (t.granted + n) (2 ^ 64 - 1))) (one_later t.times n) (one_later t.granted n)
more_swaps n true false t = same (min (one_more t.times + n) (2 ^ 64 - 1)) (min (t.granted + n) (2 ^ 64 - 1)) (one_more (min (t.times + n) (2 ^ 64 - 1))) (min (t.granted + n) (2 ^ 64 - 1)) (one_later t.times n) refl
more_swaps n false true t = same (min (one_more t.times + n) (2 ^ 64 - 1)) (one_more t.granted) (one_more (min (t.times + n) (2 ^ 64 - 1))) (one_more t.granted) (one_later t.times n) refl
more_swaps n false false t = same (min (one_more t.times + n) (2 ^ 64 - 1)) t.granted (one_more (min (t.times + n) (2 ^ 64 - 1))) t.granted (one_later t.times n) refl

pub more_once : (n : ℕ) (a : Bool) (t : Tally) → more (one_more n) a t ≡ once_more a (more n a t)
more_once n true t = same (min (t.times + one_more n) (2 ^ 64 - 1)) (min (t.granted + one_more n) (2 ^ 64 - 1)) (one_more (min (t.times + n) (2 ^ 64 - 1))) (one_more (min (t.granted + n) (2 ^ 64 - 1))) (one_in t.times n) (one_in t.granted n)
more_once n false t = same (min (t.times + one_more n) (2 ^ 64 - 1)) t.granted (one_more (min (t.times + n) (2 ^ 64 - 1))) t.granted (one_in t.times n) refl

pub first_more : (n : ℕ) (a : Bool) (t : Tally) → n ≡ 0 → more (one_more n) a t ≡ once_more a t
first_more n true t e = same (min (t.times + one_more n) (2 ^ 64 - 1)) (min (t.granted + one_more n) (2 ^ 64 - 1)) (one_more t.times) (one_more t.granted) (one_of_none t.times n e) (one_of_none t.granted n e)
first_more n false t e = same (min (t.times + one_more n) (2 ^ 64 - 1)) t.granted (one_more t.times) t.granted (one_of_none t.times n e) refl

pub one_is_some : (n : ℕ) → (one_more n == 0) ≡ false
one_is_some n = grind (arith, nat_tests)
