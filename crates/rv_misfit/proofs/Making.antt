-- Where nothing is told of a change of one line, there is a list after it that isn't too long.
use Rattle.std.proofs.Common.{◌≡◌, ℕ, ◌+◌, ◌-◌, ◌≤◌, Bool, true, false, List, [], ◌∷◌, ◌++◌, length, take, drop, Some, None, ap, sym, arith, ◌∙◌, length-append}
use Rattle.std.specs.Prelude.{ℤ, nat_le, nat_lt, if◌then◌else◌, Ok}
use Rattle.std.proofs.lemmas.Bool.{and_parts}
use Rattle.std.proofs.lemmas.Bool.Decides.{nat_tests}
use Rattle.std.proofs.lemmas.List.{length-drop, length-take-le}
use Rattle.rv_access.specs.Changes.{at_line, changed, removed, replaced}
use Rattle.rv_access.specs.Words.{Words}
use Rattle.rv_access.specs.declared.change.Change.{Change}
use Rattle.rv_access.specs.declared.change.Change.TheVariants.{Whole, Append, Remove, Replace}
use Rattle.rv_event.specs.Past.{halted}
use Rattle.rv_event.specs.declared.entry.Answer.TheVariants.{BadLine}
use Rattle.rv_event.specs.declared.entry.Entry.TheVariants.{ListChange}
use Rattle.rv_history.specs.Due.{gate, nothing_more, within}
use Rattle.rv_history.specs.History.{History, force}
use Rattle.rv_history.specs.Legal.{due_list, line_limit}
use Rattle.rv_history.specs.Owed.{has_room}
use Rattle.rv_history.specs.Steps.{due_change}
use Rattle.rv_step.specs.StepText.{StepWords}
use Rattle.rv_step.specs.declared.step.Asked.TheVariants.{Change as Changes}
use Rattle.rv_misfit.specs.Asked.{IsOfOneLine}
use Rattle.rv_misfit.specs.Misfits.{asked_misfit, change_misfit, has_line, misfit_of}
use Rattle.rv_misfit.specs.declared.misfit.Misfit.TheVariants.{ListFull, NoLine}
use Rattle.rv_misfit.proofs.Options.{untold}

short_list : (h : History) (after : List Words) → length after ≤ 512 → due_list h (Some after) ≡ BadLine → ⊥
short_list h after low e = by_room (has_room h.limits.capacity h.shapes (ListChange ∷ h.past)) (sym (ap (λ b. if b then BadLine else within (has_room h.limits.capacity h.shapes (ListChange ∷ h.past)) nothing_more) short) ∙ e)
  where
    short : nat_lt 512 (length after) ≡ false
    short = grind (arith, nat_tests, low)

    by_room : (b : Bool) → within b nothing_more ≡ BadLine → ⊥
    by_room true f = cc
    by_room false f = cc

line_there : (n : ℕ) (list after : List Words) → has_line (length list) n ≡ true → at_line n list after ≡ Some after
line_there n list after e =
    let parts = and_parts (nat_le 1 n) (nat_le n (length list)) e in
    let least = parts.0 in
    let most = parts.1 in
    let first : nat_lt 0 n ≡ true = grind (arith, nat_tests) in
    let last : nat_lt (length list) n ≡ false = grind (arith, nat_tests) in
    λ i. if first i then (if last i then None else Some after) else None

within_list : (n lines : ℕ) → has_line lines n ≡ true → n ≤ lines
within_list n lines e = let most = (and_parts (nat_le 1 n) (nat_le n lines) e).1 in grind (arith, nat_tests)

from_one : (n lines : ℕ) → has_line lines n ≡ true → 1 ≤ n
from_one n lines e = let least = (and_parts (nat_le 1 n) (nat_le n lines) e).0 in grind (arith, nat_tests)

removed_short : (list : List Words) (n : ℕ) → n ≤ length list → length (removed list n) ≤ length list
removed_short list n low =
    let both = length-append (take (n - 1) list) (drop n list) in
    let before = length-take-le (n - 1) list (omega (arith, low)) in
    let behind = length-drop n list in
    omega (arith, both, before, behind, low)

replaced_short : (list : List Words) (n : ℕ) (line : Words) → 1 ≤ n → n ≤ length list → length (replaced list n line) ≤ length list
replaced_short list n line first low =
    let both = length-append (take (n - 1) list) (line ∷ drop n list) in
    let before = length-take-le (n - 1) list (omega (arith, low)) in
    let behind = length-drop n list in
    omega (arith, both, before, behind, first, low)

made : (h : History) (list : List Words) (change : Change) → IsOfOneLine change → length list ≤ 512 → change_misfit (length list) change ≡ None → due_list h (changed list change) ≡ BadLine → ⊥
made h list (Whole whole) one low none e = absurd one
made h list (Append line) one low none e =
    let room : nat_lt (length list) 512 ≡ true = untold (nat_lt (length list) line_limit) (ListFull (length list)) none in
    let many : length (list ++ line ∷ []) ≡ length list + 1 = length-append list (line ∷ []) in
    short_list h (list ++ line ∷ []) (grind (arith, nat_tests, many, room)) e
made h list (Remove n) one low none e =
    let there = untold (has_line (length list) n) (NoLine (length list)) none in
    let few = removed_short list n (within_list n (length list) there) in
    short_list h (removed list n) (omega (arith, few, low)) (sym (ap (due_list h) (line_there n list (removed list n) there)) ∙ e)
made h list (Replace n line) one low none e =
    let there = untold (has_line (length list) n) (NoLine (length list)) none in
    let few = replaced_short list n line (from_one n (length list) there) (within_list n (length list) there) in
    short_list h (replaced list n line) (omega (arith, few, low)) (sym (ap (due_list h) (line_there n list (replaced list n line) there)) ∙ e)

pub untold_made : (h : History) (step : StepWords) (change : Change) (n : ℤ) → IsOfOneLine change → length (force h) ≤ line_limit → step.asked ≡ Changes (Ok change) n → misfit_of h.shapes (length (force h)) step ≡ None →
    due_change h change ≡ BadLine → ⊥
untold_made h step change n one low is none e = by_halt (halted h.past) e
  where
    told_none : change_misfit (length (force h)) change ≡ None
    told_none = ap (asked_misfit h.shapes (length (force h)) step.asker) (sym is) ∙ none

    by_halt : (b : Bool) → gate true b (due_list h (changed (force h) change)) ≡ BadLine → ⊥
    by_halt true f = cc
    by_halt false f = made h (force h) change one low told_none f
