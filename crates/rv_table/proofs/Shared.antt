-- The marks that two rows share.
use Rattle.std.proofs.Common.{◌≡◌, ◌≢◌, ℕ, ◌+◌, ◌-◌, ◌*◌, ◌/◌, ◌%◌, ◌<◌, ◌≤◌, List, [], ◌∷◌, length, get_or, set, Bool, true, false, Option, Some, None, arith, ap, sym, ◌∙◌, refl}
use Rattle.std.specs.Prelude.{◌==◌, ◌&&◌, bit_and, min, nat_lt}
use Rattle.std.specs.Int.{bit_at}
use Rattle.std.proofs.lemmas.Bool.Decides.{nat_tests}
use Rattle.std.proofs.lemmas.Grind.{get_or-set_at}
use Rattle.std.proofs.lemmas.List.{get_or-set_other, length-set}
use Rattle.std.proofs.lemmas.Nat.Bits.{bit_at_and}
use Rattle.rv_access.specs.Words.{WindowWords, Words}
use Rattle.rv_access.specs.Windows.{is_open}
use Rattle.rv_table.specs.Rows.{has, one, IsRow, is_open_at, passes_both}
use Rattle.rv_table.specs.Spans.{AreEnds, HasEnds}

abbrev pub anded : List ℕ → List ℕ → ℕ → List ℕ
anded ws ts w = set ws w (bit_and (get_or ws w 0) (get_or ts w 0))

and_here : (ws ts : List ℕ) (w j : ℕ) → w < length ws → j / 64 ≡ w → has (anded ws ts w) j ≡ min (has ws j) (has ts j)
and_here ws ts w j some same =
    ap (λ n. bit_at n (j % 64)) (get_or-set_at ws w (j / 64) (bit_and (get_or ws w 0) (get_or ts w 0)) 0 same some)
    ∙ bit_at_and (get_or ws w 0) (get_or ts w 0) (j % 64)
    ∙ ap (λ v. min (bit_at (get_or ws v 0) (j % 64)) (bit_at (get_or ts v 0) (j % 64))) (sym same)

and_other : (ws ts : List ℕ) (w j : ℕ) → j / 64 ≢ w → has (anded ws ts w) j ≡ has ws j
and_other ws ts w j other = ap (λ n. bit_at n (j % 64)) (get_or-set_other ws w (j / 64) (bit_and (get_or ws w 0) (get_or ts w 0)) 0 other)

-- what is done so far, and what is left
pub record Half (us ts ws : List ℕ) (w : ℕ) : Type 0 where
  pub long : length ws ≡ 8
  pub within : w ≤ 8
  pub done : (j : ℕ) → j < 64 * w → has ws j ≡ min (has us j) (has ts j)
  pub left : (j : ℕ) → 64 * w ≤ j → has ws j ≡ has us j

pub half_more : (us ts ws : List ℕ) (w : ℕ) → w < 8 → Half us ts ws w → Half us ts (anded ws ts w) (w + 1)
half_more us ts ws w small h = record {
  long = length-set ws w (bit_and (get_or ws w 0) (get_or ts w 0)) ∙ h.long;
  within = omega (arith, small);
  done = λ j less. by_test j less (j / 64 == w) refl;
  left = λ j more.
      let other : j / 64 ≢ w = λ e. omega (arith, more, e) in
      let past : 64 * w ≤ j = omega (arith, more) in
      and_other ws ts w j other ∙ h.left j past;
}
  where
    by_test : (j : ℕ) → j < 64 * (w + 1) → (t : Bool) → (j / 64 == w) ≡ t → has (anded ws ts w) j ≡ min (has us j) (has ts j)
    by_test j less true is =
        let same : j / 64 ≡ w = grind (arith, nat_tests) in
        let past : 64 * w ≤ j = omega (arith, same) in
        let some : w < length ws = omega (arith, small, h.long) in
        and_here ws ts w j some same ∙ ap (λ n. min n (has ts j)) (h.left j past)
    by_test j less false is =
        let other : j / 64 ≢ w = grind (arith, nat_tests) in
        let before : j < 64 * w = omega (arith, less, other) in
        and_other ws ts w j other ∙ h.done j before

min_zero : (n : ℕ) → min 0 n ≡ 0
min_zero n = omega arith

both_ones : (a b : Bool) → min (one a) (one b) ≡ one (a && b)
both_ones true true = refl
both_ones true false = refl
both_ones false true = refl
both_ones false false = refl

pub shared_row : (list : List Words) (first second : Words → Bool) (us ts ws : List ℕ) → length list ≤ 512 → Half us ts ws 8 → IsRow first list us → IsRow second list ts → IsRow (passes_both first second) list ws
shared_row list first second us ts ws few h ours theirs = record {
  lines = λ d i within.
      let place : length list - 1 - i < 64 * 8 = omega (arith, few, within) in
      h.done (length list - 1 - i) place ∙ (λ v. min (ours.lines d i within v) (theirs.lines d i within v)) ∙ both_ones (first (get_or list i d)) (second (get_or list i d));
  behind = λ j past. by_side j past (nat_lt j 512) refl;
}
  where
    by_side : (j : ℕ) → length list ≤ j → (t : Bool) → nat_lt j 512 ≡ t → has ws j ≡ 0
    by_side j past true is =
        let inside : j < 64 * 8 = grind (arith, nat_tests) in
        h.done j inside ∙ ap (λ n. min n (has ts j)) (ours.behind j past) ∙ min_zero (has ts j)
    by_side j past false is =
        let outside : 64 * 8 ≤ j = grind (arith, nat_tests) in
        h.left j outside ∙ ours.behind j past

-- no line has a window: all lines are open

always_open : (window : Option WindowWords) (tick : ℕ) → HasEnds [] window → is_open window tick ≡ true
always_open None tick h = refl
always_open (Some w) tick h = absurd (omega (arith, h.0.1))

and_true : (a b : Bool) → b ≡ true → one a ≡ one (a && b)
and_true true b e = ap one (sym e)
and_true false b e = refl

pub plain_row : (list : List Words) (first : Words → Bool) (tick : ℕ) (ends ws : List ℕ) → length ends ≡ 0 → AreEnds ends list → IsRow first list ws → IsRow (passes_both first (is_open_at tick)) list ws
plain_row list first tick [] ws none plain ours = record {
  lines = λ d i within. ours.lines d i within ∙ and_true (first (get_or list i d)) (is_open_at tick (get_or list i d)) (always_open (get_or list i d).window tick (plain i d within));
  behind = ours.behind;
}
plain_row list first tick (end ∷ ends) ws none plain ours = absurd (omega (arith, none))
