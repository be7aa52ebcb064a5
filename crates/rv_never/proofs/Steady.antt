-- Ticks between which the list decides alike.
use Rattle.std.proofs.Common.{◌≡◌, ℕ, ◌+◌, ◌<◌, ◌≤◌, ◌⊎◌, inl, inr, List, [], ◌∷◌, length, get_or, take, Bool, true, false, refl, ap, sym, ◌∙◌, subst, arith}
use Rattle.std.specs.Prelude.{◌&&◌, ◌==◌, nat_le, nat_lt, if◌then◌else◌, Option, Some, None, IfSome}
use Rattle.std.specs.List.{All}
use Rattle.std.proofs.lemmas.Bool.{leb-true, ltb-true, and_parts, cases_lt}
use Rattle.std.proofs.lemmas.Bool.Decides.{nat_tests}
use Rattle.std.proofs.lemmas.List.{take_all, take_more}
use Rattle.std.proofs.lemmas.List.Elements.{All-head, All-push, All-tail}
use Rattle.rv_access.specs.Limits.{most_tick}
use Rattle.rv_access.specs.Lines.{decides, fits, grants, line_at, allows, matches}
use Rattle.rv_access.specs.Windows.{IsWindow, end_tick, first_tick, is_open}
use Rattle.rv_access.specs.Words.{WindowWords, Words}
use Rattle.rv_text.specs.Numbers.{is_natural}
use Rattle.rv_never.specs.Denied.{AreSteady, IsBefore, IsDenied, IsSteady}

-- Windows

pub ordered : (window : WindowWords) → IsWindow window → first_tick window < end_tick window
ordered window is =
    let front = and_parts (is_natural window.opening && is_natural window.closing && nat_lt (first_tick window) (end_tick window)) (nat_le (end_tick window) most_tick) is.numbers in
    let inner = and_parts (is_natural window.opening && is_natural window.closing) (nat_lt (first_tick window) (end_tick window)) front.0 in
    ltb-true (first_tick window) (end_tick window) inner.1

pub ends : (window : WindowWords) → IsWindow window → end_tick window ≤ most_tick
ends window is =
    let parts = and_parts (is_natural window.opening && is_natural window.closing && nat_lt (first_tick window) (end_tick window)) (nat_le (end_tick window) most_tick) is.numbers in
    leb-true (end_tick window) most_tick parts.1

below : (a b : ℕ) → a < b → nat_le b a ≡ false
below a b e = grind (arith, nat_tests)

at_least : (a b : ℕ) → a ≤ b → nat_le a b ≡ true
at_least a b e = grind (arith, nat_tests)

under : (a b : ℕ) → a < b → nat_lt a b ≡ true
under a b e = grind (arith, nat_tests)

not_under : (a b : ℕ) → b ≤ a → nat_lt a b ≡ false
not_under a b e = grind (arith, nat_tests)

and_false : (b : Bool) → (b && false) ≡ false
and_false true = refl
and_false false = refl

-- before it opens
pub opens_later : (window : WindowWords) (tick next : ℕ) → tick < first_tick window → next ≡ first_tick window → IsSteady (Some window) tick (Some next)
opens_later window tick next less is other past before =
    let first : other < first_tick window = omega (arith, is, before) in
    let here : nat_le (first_tick window) other ≡ false = below other (first_tick window) first in
    let there : nat_le (first_tick window) tick ≡ false = below tick (first_tick window) less in
    ap (λ b. b && nat_lt other (end_tick window)) here ∙ sym (ap (λ b. b && nat_lt tick (end_tick window)) there)

-- while it is open
pub ends_later : (window : WindowWords) (tick next : ℕ) → first_tick window ≤ tick → tick < end_tick window → next ≡ end_tick window → IsSteady (Some window) tick (Some next)
ends_later window tick next opened less is other past before =
    let inside : other < end_tick window = omega (arith, is, before) in
    let since : first_tick window ≤ other = omega (arith, opened, past) in
    let here : nat_le (first_tick window) other ≡ true = at_least (first_tick window) other since in
    let there : nat_le (first_tick window) tick ≡ true = at_least (first_tick window) tick opened in
    let still : nat_lt other (end_tick window) ≡ true = under other (end_tick window) inside in
    let now : nat_lt tick (end_tick window) ≡ true = under tick (end_tick window) less in
    (λ i. here i && still i) ∙ sym (λ i. there i && now i)

-- behind it
pub is_past : (window : WindowWords) (tick : ℕ) → end_tick window ≤ tick → IsSteady (Some window) tick None
is_past window tick ended other past before =
    let later : end_tick window ≤ other = omega (arith, ended, past) in
    let here : nat_lt other (end_tick window) ≡ false = not_under other (end_tick window) later in
    let there : nat_lt tick (end_tick window) ≡ false = not_under tick (end_tick window) ended in
    (ap (λ b. nat_le (first_tick window) other && b) here ∙ and_false (nat_le (first_tick window) other))
    ∙ sym (ap (λ b. nat_le (first_tick window) tick && b) there ∙ and_false (nat_le (first_tick window) tick))

pub no_window : (tick : ℕ) (next : Option ℕ) → IsSteady None tick next
no_window tick next other past before = refl

-- Lines

pub none_steady : (unit object operation : List ℕ) (tick : ℕ) → AreSteady [] unit object operation tick None
none_steady unit object operation tick other past before = λ k d less. absurd (omega (arith, less))

-- a line more, which doesn't fit
pub skipped : (lines : List Words) (unit object operation : List ℕ) (tick : ℕ) (next : Option ℕ) (i : ℕ) (d : Words) → i < length lines
    → (fits (get_or lines i d).unit unit && fits (get_or lines i d).object object && fits (get_or lines i d).operation operation) ≡ false
    → AreSteady (take i lines) unit object operation tick next → AreSteady (take (i + 1) lines) unit object operation tick next
skipped lines unit object operation tick next i d less unfit steady other past before =
    let line = get_or lines i d in
    let P : Words → Type 0 = λ l. matches l unit object operation other ≡ matches l unit object operation tick in
    let same : P line = ap (λ b. b && is_open line.window other) unfit ∙ sym (ap (λ b. b && is_open line.window tick) unfit) in
    subst (All P) (sym (take_more lines i d less)) (All-push P (take i lines) line (steady other past before) same)

-- a line more, which fits, and is steady
pub taken : (lines : List Words) (unit object operation : List ℕ) (tick : ℕ) (next one both : Option ℕ) (i : ℕ) (d : Words) → i < length lines
    → ((other : ℕ) → IsBefore other both → IsBefore other next × IsBefore other one) → IsSteady (get_or lines i d).window tick one
    → AreSteady (take i lines) unit object operation tick next → AreSteady (take (i + 1) lines) unit object operation tick both
taken lines unit object operation tick next one both i d less earlier here steady other past before =
    let line = get_or lines i d in
    let P : Words → Type 0 = λ l. matches l unit object operation other ≡ matches l unit object operation tick in
    let parts = earlier other before in
    let same : P line = ap (λ b. (fits line.unit unit && fits line.object object && fits line.operation operation) && b) (here other past parts.1) in
    subst (All P) (sym (take_more lines i d less)) (All-push P (take i lines) line (steady other past parts.0) same)

pub all_taken : (lines : List Words) (unit object operation : List ℕ) (tick : ℕ) (next : Option ℕ) (i : ℕ) → length lines ≤ i → AreSteady (take i lines) unit object operation tick next → AreSteady lines unit object operation tick next
all_taken lines unit object operation tick next i past steady = subst (λ (ls : List Words). AreSteady ls unit object operation tick next) (take_all i lines past) steady

-- The decision

decides_alike : (lines : List Words) (unit object operation : List ℕ) (one other : ℕ) → All (λ line. matches line unit object operation other ≡ matches line unit object operation one) lines
    → decides lines unit object operation other ≡ decides lines unit object operation one
decides_alike [] unit object operation one other same = refl
decides_alike (line ∷ lines) unit object operation one other same =
    let P : Words → Type 0 = λ l. matches l unit object operation other ≡ matches l unit object operation one in
    let later = decides_alike lines unit object operation one other (All-tail P line lines same) in
    let here : P line = All-head P line lines same in
    λ i. if later i == 0 then (if here i then 1 else 0) else later i + 1

pub grants_alike : (lines : List Words) (unit object operation : List ℕ) (tick other : ℕ) (next : Option ℕ) → AreSteady lines unit object operation tick next → tick ≤ other → IsBefore other next
    → grants lines unit object operation tick ≡ false → grants lines unit object operation other ≡ false
grants_alike lines unit object operation tick other next steady past before denied =
    ap (λ n. allows (line_at lines n)) (decides_alike lines unit object operation tick other (steady other past before)) ∙ denied

-- Ticks so far

-- the call is denied from one tick on, before another
abbrev pub DeniedBefore : List Words → ℕ → ℕ → List ℕ → List ℕ → List ℕ → Type 0
DeniedBefore lines clock tick unit object operation = (other : ℕ) → clock ≤ other → other < tick → grants lines unit object operation other ≡ false

pub none_before : (lines : List Words) (clock : ℕ) (unit object operation : List ℕ) → DeniedBefore lines clock clock unit object operation
none_before lines clock unit object operation other past less = absurd (omega (arith, past, less))

pub further : (lines : List Words) (clock tick next : ℕ) (unit object operation : List ℕ) → DeniedBefore lines clock tick unit object operation → AreSteady lines unit object operation tick (Some next)
    → grants lines unit object operation tick ≡ false → DeniedBefore lines clock next unit object operation
further lines clock tick next unit object operation so_far steady denied other past less = by_cases (cases_lt other tick)
  where
    by_cases : (other < tick) ⊎ (tick ≤ other) → grants lines unit object operation other ≡ false
    by_cases (inl before) = so_far other past before
    by_cases (inr since) = grants_alike lines unit object operation tick other (Some next) steady since less denied

pub for_good : (lines : List Words) (clock tick : ℕ) (unit object operation : List ℕ) → DeniedBefore lines clock tick unit object operation → AreSteady lines unit object operation tick None
    → grants lines unit object operation tick ≡ false → IsDenied lines clock unit object operation
for_good lines clock tick unit object operation so_far steady denied other past = by_cases (cases_lt other tick)
  where
    by_cases : (other < tick) ⊎ (tick ≤ other) → grants lines unit object operation other ≡ false
    by_cases (inl before) = so_far other past before
    by_cases (inr since) = grants_alike lines unit object operation tick other None steady since tt denied

pub granted_once : (lines : List Words) (clock tick : ℕ) (unit object operation : List ℕ) → clock ≤ tick → grants lines unit object operation tick ≡ true → IsDenied lines clock unit object operation → ⊥
granted_once lines clock tick unit object operation past granted denied =
    let both : true ≡ false = sym granted ∙ denied tick past in
    absurd (cc)

-- the earlier of two ticks is behind this one where both are
pub either_of : (tick : ℕ) (both one other : Option ℕ) → (both ≡ one) ⊎ (both ≡ other) → IfSome one (λ next. (tick < next) × (next ≤ most_tick))
    → IfSome other (λ next. (tick < next) × (next ≤ most_tick)) → IfSome both (λ next. (tick < next) × (next ≤ most_tick))
either_of tick both one other (inl is) first second = subst (λ (o : Option ℕ). IfSome o (λ next. (tick < next) × (next ≤ most_tick))) (sym is) first
either_of tick both one other (inr is) first second = subst (λ (o : Option ℕ). IfSome o (λ next. (tick < next) × (next ≤ most_tick))) (sym is) second
