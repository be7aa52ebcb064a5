-- Spans of ticks, one by one.
use Rattle.std.proofs.Common.{◌≡◌, ℕ, ◌+◌, ◌<◌, ◌≤◌, List, [], ◌∷◌, ◌++◌, length, get_or, take, Bool, true, false, refl, ap, sym, ◌∙◌, arith}
use Rattle.std.specs.Prelude.{◌&&◌, ◌||◌, nat_le, nat_lt, Some, None}
use Rattle.std.proofs.lemmas.Bool.{leb-true, and_parts}
use Rattle.std.proofs.lemmas.Bool.Decides.{nat_tests}
use Rattle.std.proofs.lemmas.List.Folds.{list_any-append, list_any_at, list_any_more}
use Rattle.rv_access.specs.Limits.{most_tick}
use Rattle.rv_access.specs.Words.{WindowWords, Words}
use Rattle.rv_access.specs.Windows.{IsWindow, end_tick, first_tick, is_open}
use Rattle.rv_text.specs.Numbers.{is_natural}
use Rattle.rv_notes.specs.Covered.{Span, is_held, is_in, is_spanned_at, is_wider}

-- Windows

-- the span of a window
abbrev pub span_of : WindowWords → Span
span_of window = (first_tick window, end_tick window)

pub span_added : (lines : List Words) (line wide : Words) (i : ℕ) (spans : List Span) (window : WindowWords) → i < length lines → wide ≡ get_or lines i wide → is_wider wide line ≡ true → wide.window ≡ Some window
    → ((tick : ℕ) → is_spanned_at (take i lines) line tick ≡ is_held spans tick) → (tick : ℕ) → is_spanned_at (take (i + 1) lines) line tick ≡ is_held (spans ++ span_of window ∷ []) tick
span_added lines line wide i spans window there is wider has so_far tick =
    let test : Words → Bool = λ w. is_wider w line && is_open w.window tick in
    let here : test (get_or lines i wide) ≡ is_in tick (span_of window) =
    ap test (sym is) ∙ (λ j. wider j && is_open (has j) tick) in
    list_any_more test lines i wide there
    ∙ (λ j. so_far tick j || here j)
    ∙ sym (list_any-append (is_in tick) spans (span_of window ∷ []) ∙ ap (λ b. is_held spans tick || b) (or_false (is_in tick (span_of window))))
  where
    or_false : (b : Bool) → (b || false) ≡ b
    or_false true = refl
    or_false false = refl

pub span_skipped : (lines : List Words) (line wide : Words) (i : ℕ) (spans : List Span) → i < length lines → wide ≡ get_or lines i wide → is_wider wide line ≡ false
    → ((tick : ℕ) → is_spanned_at (take i lines) line tick ≡ is_held spans tick) → (tick : ℕ) → is_spanned_at (take (i + 1) lines) line tick ≡ is_held spans tick
span_skipped lines line wide i spans there is narrow so_far tick =
    let test : Words → Bool = λ w. is_wider w line && is_open w.window tick in
    let here : test (get_or lines i wide) ≡ false = ap test (sym is) ∙ ap (λ b. b && is_open wide.window tick) narrow in
    list_any_more test lines i wide there ∙ (λ j. so_far tick j || here j) ∙ or_false (is_held spans tick)
  where
    or_false : (b : Bool) → (b || false) ≡ b
    or_false true = refl
    or_false false = refl

-- one that is always open
pub always : (lines : List Words) (line wide : Words) (i : ℕ) → i < length lines → wide ≡ get_or lines i wide → is_wider wide line ≡ true → wide.window ≡ None → (tick : ℕ) → is_spanned_at lines line tick ≡ true
always lines line wide i there is wider none tick =
    let test : Words → Bool = λ w. is_wider w line && is_open w.window tick in
    let here : test (get_or lines i wide) ≡ true = ap test (sym is) ∙ (λ j. wider j && is_open (none j) tick) in
    list_any_at test lines i wide there here

-- no window holds the tick behind all of them
pub past_window : (window : WindowWords) → IsWindow window → is_in most_tick (span_of window) ≡ false
past_window window is =
    let whole : (is_natural window.opening && is_natural window.closing && nat_lt (first_tick window) (end_tick window) && nat_le (end_tick window) most_tick) ≡ true = is.numbers in
    let few : end_tick window ≤ most_tick = leb-true (end_tick window) most_tick (and_parts (is_natural window.opening && is_natural window.closing && nat_lt (first_tick window) (end_tick window)) (nat_le (end_tick window) most_tick) whole).1 in
    let past : nat_lt most_tick (end_tick window) ≡ false = grind (arith, nat_tests) in
    ap (λ b. nat_le (first_tick window) most_tick && b) past ∙ and_false (nat_le (first_tick window) most_tick)
  where
    and_false : (b : Bool) → (b && false) ≡ false
    and_false true = refl
    and_false false = refl

pub past_added : (spans : List Span) (window : WindowWords) → IsWindow window → is_held spans most_tick ≡ false → is_held (spans ++ span_of window ∷ []) most_tick ≡ false
past_added spans window is none =
    let here = past_window window is in
    list_any-append (is_in most_tick) spans (span_of window ∷ []) ∙ (λ j. none j || (here j || false))
