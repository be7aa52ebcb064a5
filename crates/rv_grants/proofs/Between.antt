-- Between two ends of windows the same line decides.
use Rattle.std.proofs.Common.{◌≡◌, ◌⊎◌, ◌<◌, ◌≤◌, ◌+◌, ℕ, Bool, Option, Some, None, List, [], ◌∷◌, ◌++◌, refl, ap, arith, inl, inr, if◌then◌else◌}
use Rattle.std.specs.Prelude.{◌==◌, ◌&&◌, nat_le, nat_lt}
use Rattle.std.proofs.lemmas.Bool.Decides.{nat_tests}
use Rattle.rv_access.specs.Lines.{decides, fits, matches}
use Rattle.rv_access.specs.Windows.{end_tick, first_tick, is_open}
use Rattle.rv_access.specs.Words.{WindowWords, Words}
use Rattle.rv_shape.specs.Catalogue.{dotted}
use Rattle.rv_grants.specs.Grants.{DecidesBetween, NoneBetween, ends, window_ends}

open_same : (first end from to : ℕ) → from ≤ to → (first ≤ from) ⊎ (to < first) → (end ≤ from) ⊎ (to < end) → (nat_le first to && nat_lt to end) ≡ (nat_le first from && nat_lt from end)
open_same first end from to le (inl a) (inl b) = grind (arith, nat_tests)
open_same first end from to le (inl a) (inr b) = grind (arith, nat_tests)
open_same first end from to le (inr a) (inl b) = grind (arith, nat_tests)
open_same first end from to le (inr a) (inr b) = grind (arith, nat_tests)

-- a window is open at both or at neither, and what lies behind its ends is left
window_same : (window : Option WindowWords) (from to : ℕ) (others : List ℕ) → from ≤ to → NoneBetween from to (window_ends window ++ others) → (is_open window to ≡ is_open window from) × NoneBetween from to others
window_same None from to others le none = (refl, none)
window_same (Some window) from to others le none = (open_same (first_tick window) (end_tick window) from to le none.0 none.1.0, none.1.1)

lines_same : (list : List Words) (unit object operation : List ℕ) (from to : ℕ) → from ≤ to → NoneBetween from to (ends list) → decides list unit object operation to ≡ decides list unit object operation from
lines_same [] unit object operation from to le none = refl
lines_same (line ∷ lines) unit object operation from to le none =
    let window = window_same line.window from to (ends lines) le none in
    let rest = lines_same lines unit object operation from to le window.1 in
    let here = ap (λ (open_now : Bool). fits line.unit unit && fits line.object object && fits line.operation operation && open_now) window.0 in
    both (decides lines unit object operation to) (decides lines unit object operation from) (matches line unit object operation to) (matches line unit object operation from) rest here
  where
    both : (m n : ℕ) (b c : Bool) → m ≡ n → b ≡ c → (if m == 0 then (if b then 1 else 0) else m + 1) ≡ (if n == 0 then (if c then 1 else 0) else n + 1)
    both m n b c e f = cc

pub decides_between : DecidesBetween
decides_between list call from to le none = lines_same list call.caller (dotted call.unit call.object) call.operation from to le none
