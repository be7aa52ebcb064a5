-- Which line decides, by those behind it.
use Rattle.std.proofs.Common.{◌≡◌, ℕ, zero, suc, ◌+◌, ◌<◌, List, [], ◌∷◌, length, get_or, drop, Bool, true, false, refl, ap, ◌∙◌, arith}
use Rattle.std.specs.Prelude.{◌==◌, ◌||◌, if◌then◌else◌}
use Rattle.std.specs.List.{list_any}
use Rattle.std.proofs.lemmas.Bool.Decides.{nat_tests}
use Rattle.rv_access.specs.Words.{Words}
use Rattle.rv_access.specs.Lines.{decides, matches}

-- the line that decides, by the one that decides behind the first, and whether the first matches
abbrev pick : ℕ → Bool → ℕ
pick later here = if later == 0 then (if here then 1 else 0) else later + 1

not_none : (n : ℕ) → (suc n == 0) ≡ false
not_none n = grind (arith, nat_tests)

pick_more : (n : ℕ) (here : Bool) → pick (suc n) here ≡ suc n + 1
pick_more n here = ap (λ b. if b then (if here then 1 else 0) else suc n + 1) (not_none n)

picks_none : (later : ℕ) (here : Bool) → pick later here ≡ 0 → (later ≡ 0) × (here ≡ false)
picks_none zero true e = absurd (omega (arith, e))
picks_none zero false e = (refl, refl)
picks_none (suc n) here e = absurd (omega (arith, e, pick_more n here))

picks_first : (later : ℕ) (here : Bool) → pick later here ≡ 1 → (here ≡ true) × (later ≡ 0)
picks_first zero true e = (refl, refl)
picks_first zero false e = absurd (omega (arith, e))
picks_first (suc n) here e = absurd (omega (arith, e, pick_more n here))

picks_later : (later : ℕ) (here : Bool) (k : ℕ) → pick later here ≡ suc (suc k) → later ≡ suc k
picks_later zero true k e = absurd (omega (arith, e))
picks_later zero false k e = absurd (omega (arith, e))
picks_later (suc n) here k e = omega (arith, e, pick_more n here)

-- some of these lines match
abbrev pub is_matched : List Words → List ℕ → List ℕ → List ℕ → ℕ → Bool
is_matched lines unit object operation tick = list_any (λ line. matches line unit object operation tick) lines

pub none_matches : (lines : List Words) (unit object operation : List ℕ) (tick : ℕ) → decides lines unit object operation tick ≡ 0 → is_matched lines unit object operation tick ≡ false
none_matches [] unit object operation tick e = refl
none_matches (line ∷ lines) unit object operation tick e =
    let parts = picks_none (decides lines unit object operation tick) (matches line unit object operation tick) e in
    let later = none_matches lines unit object operation tick parts.0 in
    let here = parts.1 in
    λ i. here i || later i

neither : (a b : Bool) → (a || b) ≡ false → (a ≡ false) × (b ≡ false)
neither true b e = absurd (cc)
neither false b e = (refl, e)

pub none_decides : (lines : List Words) (unit object operation : List ℕ) (tick : ℕ) → is_matched lines unit object operation tick ≡ false → decides lines unit object operation tick ≡ 0
none_decides [] unit object operation tick e = refl
none_decides (line ∷ lines) unit object operation tick e =
    let parts = neither (matches line unit object operation tick) (is_matched lines unit object operation tick) e in
    let here = parts.0 in
    let later = none_decides lines unit object operation tick parts.1 in
    λ i. pick (later i) (here i)

-- the line behind so many decides where it matches, and none behind it decides
pub decided_by : (lines : List Words) (k : ℕ) (d : Words) (unit object operation : List ℕ) (tick : ℕ) → k < length lines → decides lines unit object operation tick ≡ suc k
    → (matches (get_or lines k d) unit object operation tick ≡ true) × (decides (drop (suc k) lines) unit object operation tick ≡ 0)
decided_by [] k d unit object operation tick less e = absurd (omega (arith, less))
decided_by (line ∷ lines) zero d unit object operation tick less e = picks_first (decides lines unit object operation tick) (matches line unit object operation tick) e
decided_by (line ∷ lines) (suc k) d unit object operation tick less e =
    decided_by lines k d unit object operation tick (omega (arith, less)) (picks_later (decides lines unit object operation tick) (matches line unit object operation tick) k e)

pub decides_by : (lines : List Words) (k : ℕ) (d : Words) (unit object operation : List ℕ) (tick : ℕ) → k < length lines → matches (get_or lines k d) unit object operation tick ≡ true → decides (drop (suc k) lines) unit object operation tick ≡ 0
    → decides lines unit object operation tick ≡ suc k
decides_by [] k d unit object operation tick less here none = absurd (omega (arith, less))
decides_by (line ∷ lines) zero d unit object operation tick less here none = λ i. pick (none i) (here i)
decides_by (line ∷ lines) (suc k) d unit object operation tick less here none =
    let later = decides_by lines k d unit object operation tick (omega (arith, less)) here none in
    let sum : suc k + 1 ≡ suc (suc k) = omega arith in
    ap (λ n. pick n (matches line unit object operation tick)) later ∙ (pick_more k (matches line unit object operation tick) ∙ sum)
