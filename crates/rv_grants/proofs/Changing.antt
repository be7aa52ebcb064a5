-- The rows of a call, tick by tick.
use Rattle.std.proofs.Common.{◌≡◌, ◌≤◌, ℕ, Bool, true, false, List, [], ◌∷◌, ◌++◌, Some, Option, length, get_or, drop, sym, ap, ◌∙◌, arith, append_assoc, if◌then◌else◌}
use Rattle.rv_access.specs.Words.{Words}
use Rattle.rv_grants.specs.Differences.{Deciding, are_same, deciding, difference_at, differences_from, end_among}
use Rattle.rv_grants.specs.Grants.{Call, change, decided, grants_from}

pub one_more : (list : List Words) (call : Call) (last : Option ℕ) (ticks rest : List ℕ) (tick number : ℕ) (text middle new : List ℕ) → 1 ≤ length ticks → tick ≡ get_or ticks 0 0 → rest ≡ drop 1 ticks → number ≡ decided list call tick →
    middle ≡ text ++ change list call last tick number → new ≡ middle ++ grants_from list call (Some number) rest → new ≡ text ++ grants_from list call last ticks
one_more list call last [] rest tick number text middle new le tick_is rest_is number_is middle_is new_is = absurd (omega arith)
one_more list call last (t ∷ ts) rest tick number text middle new le tick_is rest_is number_is middle_is new_is =
    let is : number ≡ decided list call t = number_is ∙ ap (λ (x : ℕ). decided list call x) tick_is in
    new_is ∙ ap (λ (x : List ℕ). x ++ grants_from list call (Some number) rest) middle_is
    ∙ append_assoc text (change list call last tick number) (grants_from list call (Some number) rest)
    ∙ ap (λ (x : ℕ). text ++ (change list call last x number ++ grants_from list call (Some number) rest)) tick_is
    ∙ ap (λ (x : List ℕ). text ++ (change list call last t number ++ grants_from list call (Some number) x)) rest_is
    ∙ ap (λ (x : ℕ). text ++ (change list call last t x ++ grants_from list call (Some x) ts)) is

-- until other lines decide

pub end_later : (one other : List Words) (call : Call) (these : Deciding) (ticks rest : List ℕ) (tick : ℕ) (end : Option ℕ) → 1 ≤ length ticks → tick ≡ get_or ticks 0 0 → rest ≡ drop 1 ticks → are_same these (deciding one other call tick) ≡ true → end ≡ end_among one other call these rest →
    end ≡ end_among one other call these ticks
end_later one other call these [] rest tick end le tick_is rest_is same end_is = absurd (omega arith)
end_later one other call these (t ∷ ts) rest tick end le tick_is rest_is same end_is =
    let is : are_same these (deciding one other call t) ≡ true = sym (ap (λ (x : ℕ). are_same these (deciding one other call x)) tick_is) ∙ same in
    end_is ∙ ap (λ (x : List ℕ). end_among one other call these x) rest_is
    ∙ sym (ap (λ (b : Bool). if b then end_among one other call these ts else Some t) is)

pub end_here : (one other : List Words) (call : Call) (these : Deciding) (ticks : List ℕ) (tick : ℕ) → 1 ≤ length ticks → tick ≡ get_or ticks 0 0 → are_same these (deciding one other call tick) ≡ false → Some tick ≡ end_among one other call these ticks
end_here one other call these [] tick le tick_is other_is = absurd (omega arith)
end_here one other call these (t ∷ ts) tick le tick_is other_is =
    let is : are_same these (deciding one other call t) ≡ false = sym (ap (λ (x : ℕ). are_same these (deciding one other call x)) tick_is) ∙ other_is in
    ap (λ (x : ℕ). let o : Option ℕ = Some x in o) tick_is
    ∙ sym (ap (λ (b : Bool). if b then end_among one other call these ts else Some t) is)

pub one_difference : (one other : List Words) (call : Call) (last : Option Deciding) (ticks rest : List ℕ) (tick : ℕ) (these : Deciding) (text middle new : List ℕ) → 1 ≤ length ticks → tick ≡ get_or ticks 0 0 → rest ≡ drop 1 ticks → these ≡ deciding one other call tick →
    middle ≡ text ++ difference_at one other call last tick rest → new ≡ middle ++ differences_from one other call (Some these) rest → new ≡ text ++ differences_from one other call last ticks
one_difference one other call last [] rest tick these text middle new le tick_is rest_is these_is middle_is new_is = absurd (omega arith)
one_difference one other call last (t ∷ ts) rest tick these text middle new le tick_is rest_is these_is middle_is new_is =
    let is : these ≡ deciding one other call t = these_is ∙ ap (λ (x : ℕ). deciding one other call x) tick_is in
    new_is ∙ ap (λ (x : List ℕ). x ++ differences_from one other call (Some these) rest) middle_is
    ∙ append_assoc text (difference_at one other call last tick rest) (differences_from one other call (Some these) rest)
    ∙ ap (λ (x : ℕ). text ++ (difference_at one other call last x rest ++ differences_from one other call (Some these) rest)) tick_is
    ∙ ap (λ (x : List ℕ). text ++ (difference_at one other call last t x ++ differences_from one other call (Some these) x)) rest_is
    ∙ ap (λ (x : Deciding). text ++ (difference_at one other call last t ts ++ differences_from one other call (Some x) ts)) is
