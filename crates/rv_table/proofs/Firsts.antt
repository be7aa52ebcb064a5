-- The last line that matches is the first one from the end.
use Rattle.std.proofs.Common.{◌≡◌, ℕ, zero, suc, ◌+◌, ◌-◌, ◌<◌, ◌≤◌, List, [], ◌∷◌, length, get_or, Bool, true, false, arith, ap, sym, ◌∙◌, refl}
use Rattle.std.specs.Prelude.{◌==◌, nat_lt, if◌then◌else◌}
use Rattle.std.proofs.lemmas.Bool.Decides.{nat_tests}
use Rattle.rv_access.specs.Words.{Words}
use Rattle.rv_access.specs.Lines.{matches, decides, fits}
use Rattle.rv_access.specs.Windows.{is_open}
use Rattle.std.specs.Prelude.{min, ◌&&◌}
use Rattle.rv_table.specs.Rows.{has, one, IsRow, is_open_at, of_caller, of_site, passes_both}

pub none_decides : (ls : List Words) (d : Words) (u o p : List ℕ) (t : ℕ) → ((i : ℕ) → i < length ls → matches (get_or ls i d) u o p t ≡ false) → decides ls u o p t ≡ 0
none_decides [] d u o p t none = refl
none_decides (x ∷ xs) d u o p t none =
    let later : decides xs u o p t ≡ 0 = none_decides xs d u o p t (λ i less. none (suc i) (omega (arith, less))) in
    let here : matches x u o p t ≡ false = none 0 (omega arith) in
    λ i. if later i == 0 then (if here i then 1 else 0) else later i + 1

pub last_decides : (ls : List Words) (d : Words) (u o p : List ℕ) (t i : ℕ) → i < length ls → matches (get_or ls i d) u o p t ≡ true → ((j : ℕ) → i < j → j < length ls → matches (get_or ls j d) u o p t ≡ false) → decides ls u o p t ≡ i + 1
last_decides [] d u o p t i some fits none = absurd (omega (arith, some))
last_decides (x ∷ xs) d u o p t zero some fits none =
    let later : decides xs u o p t ≡ 0 = none_decides xs d u o p t (λ j less. none (suc j) (omega arith) (omega (arith, less))) in
    λ i. if later i == 0 then (if fits i then 1 else 0) else later i + 1
last_decides (x ∷ xs) d u o p t (suc i) some fits none =
    let later : decides xs u o p t ≡ i + 1 = last_decides xs d u o p t i (omega (arith, some)) fits (λ j more less. none (suc j) (omega (arith, more)) (omega (arith, less))) in
    let some : (i + 1 == 0) ≡ false = grind (arith, nat_tests) in
    (λ k. if later k == 0 then (if matches x u o p t then 1 else 0) else later k + 1) ∙ ap (λ b. if b then (if matches x u o p t then 1 else 0) else i + 1 + 1) some ∙ omega arith

-- rows and lines
one_true : (b : Bool) → one b ≡ 1 → b ≡ true
one_true true e = refl
one_true false e = absurd (omega (arith, e))

not_both : (a b : Bool) → min (one a) (one b) ≡ 0 → (a && b) ≡ false
not_both true true e = absurd (omega (arith, e))
not_both true false e = refl
not_both false b e = refl

-- the lines of a caller that are open at a tick
abbrev ours_at : List ℕ → ℕ → Words → Bool
ours_at u t = passes_both (of_caller u) (is_open_at t)

parts : (line : Words) (u o p : List ℕ) (t : ℕ) → matches line u o p t ≡ (ours_at u t line && of_site o p line)
parts line u o p t = by_unit (fits line.unit u) (fits line.object o) (fits line.operation p) (is_open line.window t)
  where
    by_unit : (a b c d : Bool) → (a && b && c && d) ≡ ((a && d) && (b && c))
    by_unit true true true true = refl
    by_unit true true true false = refl
    by_unit true true false true = refl
    by_unit true true false false = refl
    by_unit true false c true = refl
    by_unit true false c false = refl
    by_unit false b c d = refl

pub first_is : (ls : List Words) (d : Words) (u o p : List ℕ) (at : ℕ) (us ts : List ℕ) (k : ℕ) → IsRow (ours_at u at) ls us → IsRow (of_site o p) ls ts → has us k ≡ 1 → has ts k ≡ 1 → ((j : ℕ) → j < k → min (has us j) (has ts j) ≡ 0) → decides ls u o p at ≡ length ls - k
first_is ls d u o p at us ts k ours theirs mine yours before = by_place (nat_lt k (length ls)) refl
  where
    by_place : (t : Bool) → nat_lt k (length ls) ≡ t → decides ls u o p at ≡ length ls - k
    by_place true is =
        let less : k < length ls = grind (arith, nat_tests) in
        let i : ℕ = length ls - 1 - k in
        let inside : i < length ls = omega (arith, less) in
        let place : length ls - 1 - i ≡ k = omega (arith, less) in
        let a : ours_at u at (get_or ls i d) ≡ true = one_true (ours_at u at (get_or ls i d)) (sym (ours.lines d i inside) ∙ ap (has us) place ∙ mine) in
        let b : of_site o p (get_or ls i d) ≡ true = one_true (of_site o p (get_or ls i d)) (sym (theirs.lines d i inside) ∙ ap (has ts) place ∙ yours) in
        last_decides ls d u o p at i inside (parts (get_or ls i d) u o p at ∙ (λ v. a v && b v))
        (λ j more within.
        let earlier : length ls - 1 - j < k = omega (arith, more, within, less) in
        parts (get_or ls j d) u o p at ∙ not_both (ours_at u at (get_or ls j d)) (of_site o p (get_or ls j d)) ((λ v. min (sym (ours.lines d j within) v) (sym (theirs.lines d j within) v)) ∙ before (length ls - 1 - j) earlier))
        ∙ omega (arith, less)
    by_place false is =
        let past : length ls ≤ k = grind (arith, nat_tests) in
        absurd (omega (arith, ours.behind k past, mine))

pub none_is : (ls : List Words) (d : Words) (u o p : List ℕ) (at : ℕ) (us ts : List ℕ) → length ls ≤ 512 → IsRow (ours_at u at) ls us → IsRow (of_site o p) ls ts → ((j : ℕ) → j < 512 → min (has us j) (has ts j) ≡ 0) → decides ls u o p at ≡ 0
none_is ls d u o p at us ts small ours theirs none =
    none_decides ls d u o p at
    (λ j within. parts (get_or ls j d) u o p at ∙ not_both (ours_at u at (get_or ls j d)) (of_site o p (get_or ls j d)) ((λ v. min (sym (ours.lines d j within) v) (sym (theirs.lines d j within) v)) ∙ none (length ls - 1 - j) (omega (arith, small, within))))
