-- Texts one behind another.
use Rattle.std.proofs.Common.{◌≡◌, ℕ, Bool, true, false, List, [], ◌∷◌, ◌++◌, Option, None, ap, sym, ◌∙◌, append_assoc, if◌then◌else◌}
use Rattle.rv_access.specs.Lines.{line_at}
use Rattle.rv_access.specs.Words.{Words}
use Rattle.rv_grants.specs.Differences.{Deciding, decided_before, deciding, difference_at, differ, differences_from, differences_text, edges_of, end_among, told_apart}
use Rattle.rv_grants.specs.Grants.{Call, change, is_again, json_row, told}

abbrev Text : Type 0
Text = List ℕ

pub two_put : (old one two a b : Text) → one ≡ old ++ a → two ≡ one ++ b → two ≡ old ++ (a ++ b)
two_put old one two a b one_is two_is =
    two_is ∙ ap (λ (t : Text). t ++ b) one_is ∙ append_assoc old a b

pub four_put : (old one two three four a b c d : Text) → one ≡ old ++ a → two ≡ one ++ b → three ≡ two ++ c → four ≡ three ++ d → four ≡ old ++ (a ++ (b ++ (c ++ d)))
four_put old one two three four a b c d one_is two_is three_is four_is =
    two_put old one four a (b ++ (c ++ d)) one_is (two_put one two four b (c ++ d) two_is (two_put two three four c d three_is four_is))

-- a row, by what its parts are
pub row_put : (call : Call) (old new span decision one two : Text) → span ≡ one → decision ≡ two → new ≡ old ++ json_row call span decision → new ≡ old ++ json_row call one two
row_put call old new span decision one two span_is decision_is new_is =
    new_is ∙ ap (λ (t : Text). old ++ json_row call t decision) span_is ∙ ap (λ (t : Text). old ++ json_row call one t) decision_is

-- where another line decided before
pub change_put : (list : List Words) (call : Call) (last : Option ℕ) (tick number : ℕ) (line : Option Words) (old new : Text) (again : Bool) → again ≡ is_again last number → again ≡ false → line ≡ line_at list number →
    new ≡ old ++ told call tick number line → new ≡ old ++ change list call last tick number
change_put list call last tick number line old new again again_is not_again line_is new_is =
    new_is ∙ ap (λ (l : Option Words). old ++ told call tick number l) line_is
    ∙ sym (ap (λ (b : Bool). let none : Text = [] in old ++ (if b then none else told call tick number (line_at list number))) (sym again_is ∙ not_again))

-- where other lines decided before, and the lists differ
pub difference_put : (one other : List Words) (call : Call) (last : Option Deciding) (tick : ℕ) (ticks : List ℕ) (these : Deciding) (end : Option ℕ) (old new : Text) (before differs : Bool) → these ≡ deciding one other call tick → before ≡ decided_before last these → before ≡ false →
    differs ≡ differ one other these → differs ≡ true → end ≡ end_among one other call these ticks → new ≡ old ++ told_apart one other call tick end these → new ≡ old ++ difference_at one other call last tick ticks
difference_put one other call last tick ticks these end old new before differs these_is before_is not_before differs_is so end_is new_is =
    let none : Text = [] in
    let all : Deciding → Text = λ (d : Deciding). told_apart one other call tick (end_among one other call d ticks) d in
    new_is ∙ ap (λ (e : Option ℕ). old ++ told_apart one other call tick e these) end_is
    ∙ sym (ap (λ (b : Bool). old ++ (if b then all these else none)) (sym differs_is ∙ so))
    ∙ sym (ap (λ (b : Bool). old ++ (if b then none else (if differ one other these then all these else none))) (sym before_is ∙ not_before))
    ∙ ap (λ (d : Deciding). old ++ (if decided_before last d then none else (if differ one other d then all d else none))) these_is

pub differences_put : (one other : List Words) (call : Call) (ticks : List ℕ) (old new : Text) → ticks ≡ 0 ∷ edges_of one other → new ≡ old ++ differences_from one other call None ticks → new ≡ old ++ differences_text one other call
differences_put one other call ticks old new ticks_is new_is =
    new_is ∙ ap (λ (ts : List ℕ). old ++ differences_from one other call None ts) ticks_is
