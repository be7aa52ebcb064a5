-- Where it is told that a change is never made, there is no such list after it, or one that is too long.
use Rattle.std.proofs.Common.{◌≡◌, ℕ, ◌+◌, Bool, true, false, List, [], ◌∷◌, ◌++◌, length, Some, None, refl, ap, sym, arith, ◌∙◌, length-append}
use Rattle.std.specs.Prelude.{ℤ, nat_lt, if◌then◌else◌}
use Rattle.std.proofs.lemmas.Bool.Decides.{nat_tests}
use Rattle.rv_access.specs.Changes.{at_line, changed}
use Rattle.rv_access.specs.Words.{Words}
use Rattle.rv_access.specs.declared.change.Change.{Change}
use Rattle.rv_access.specs.declared.change.Change.TheVariants.{Whole, Append, Remove, Replace}
use Rattle.rv_event.specs.Past.{halted}
use Rattle.rv_event.specs.declared.entry.Answer.TheVariants.{BadLine, Halted}
use Rattle.rv_event.specs.declared.entry.Entry.TheVariants.{ListChange}
use Rattle.rv_history.specs.Due.{gate, nothing_more, within}
use Rattle.rv_history.specs.History.{History, force}
use Rattle.rv_history.specs.Legal.{due_list, line_limit}
use Rattle.rv_history.specs.Owed.{has_room}
use Rattle.rv_history.specs.Steps.{after_change, due_change}
use Rattle.rv_misfit.specs.Misfits.{asked_misfit, change_misfit, has_line, misfit_of}
use Rattle.rv_misfit.specs.declared.misfit.Misfit.{Misfit}
use Rattle.rv_misfit.specs.declared.misfit.Misfit.TheVariants.{ListFull, NoLine}
use Rattle.rv_misfit.proofs.Options.{never, told}
use Rattle.rv_step.specs.StepText.{StepWords}
use Rattle.rv_step.specs.declared.step.Asked.TheVariants.{Change as Changes}
use Rattle.std.specs.Prelude.{Ok}

no_line : (n : ℕ) (list after : List Words) → has_line (length list) n ≡ false → at_line n list after ≡ None
no_line n list after e = by_first (nat_lt 0 n) refl
  where
    by_last : (b : Bool) → nat_lt 0 n ≡ true → nat_lt (length list) n ≡ b → (if b then None else Some after) ≡ None
    by_last true first f = refl
    by_last false first f = absurd (grind (arith, nat_tests))

    by_first : (b : Bool) → nat_lt 0 n ≡ b → (if b then (if nat_lt (length list) n then None else Some after) else None) ≡ None
    by_first true f = by_last (nat_lt (length list) n) f refl
    by_first false f = refl

too_long : (h : History) (list : List Words) (line : Words) → nat_lt (length list) 512 ≡ false → due_list h (Some (list ++ line ∷ [])) ≡ BadLine
too_long h list line e =
    let many : length (list ++ line ∷ []) ≡ length list + 1 = length-append list (line ∷ []) in
    let long : nat_lt 512 (length (list ++ line ∷ [])) ≡ true = grind (arith, nat_tests, many) in
    ap (λ b. if b then BadLine else within (has_room h.limits.capacity h.shapes (ListChange ∷ h.past)) nothing_more) long

bad_line : (h : History) (list : List Words) (change : Change) (misfit : Misfit) → change_misfit (length list) change ≡ Some misfit → due_list h (changed list change) ≡ BadLine
bad_line h list (Whole whole) misfit e = never misfit e
bad_line h list (Append line) misfit e = too_long h list line (told (nat_lt (length list) line_limit) (ListFull (length list)) misfit e)
bad_line h list (Remove n) misfit e = ap (due_list h) (no_line n list _ (told (has_line (length list) n) (NoLine (length list)) misfit e))
bad_line h list (Replace n line) misfit e = ap (due_list h) (no_line n list _ (told (has_line (length list) n) (NoLine (length list)) misfit e))

by_step : (h : History) (step : StepWords) (change : Change) (n : ℤ) (misfit : Misfit) → step.asked ≡ Changes (Ok change) n → misfit_of h.shapes (length (force h)) step ≡ Some misfit →
    due_list h (changed (force h) change) ≡ BadLine
by_step h step change n misfit is e = bad_line h (force h) change misfit (ap (asked_misfit h.shapes (length (force h)) step.asker) (sym is) ∙ e)

pub told_bad : (h : History) (step : StepWords) (change : Change) (n : ℤ) (misfit : Misfit) → step.asked ≡ Changes (Ok change) n → misfit_of h.shapes (length (force h)) step ≡ Some misfit →
    due_change h change ≡ (if halted h.past then Halted else BadLine)
told_bad h step change n misfit is e = ap (gate true (halted h.past)) (by_step h step change n misfit is e)

pub told_unmade : (h : History) (step : StepWords) (change : Change) (n : ℤ) (misfit : Misfit) → step.asked ≡ Changes (Ok change) n → misfit_of h.shapes (length (force h)) step ≡ Some misfit →
    after_change h change (due_change h change) ≡ h
told_unmade h step change n misfit is e = ap (after_change h change) (told_bad h step change n misfit is e) ∙ by_halt (halted h.past)
  where
    by_halt : (b : Bool) → after_change h change (if b then Halted else BadLine) ≡ h
    by_halt true = refl
    by_halt false = refl
