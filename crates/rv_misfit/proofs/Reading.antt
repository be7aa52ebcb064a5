-- A line that a step names is one of the ten.
use Rattle.std.proofs.Common.{◌≡◌, ℕ, ◌-◌, ◌≤◌, Bool, true, false, List, [], ◌∷◌, take, length, Some, None, Option, arith, subst, refl}
use Rattle.std.specs.Prelude.{codes, ◌==◌, ◌&&◌, not, slice_index, if◌then◌else◌}
use Rattle.std.specs.Char.{is_ascii_digit}
use Rattle.std.proofs.lemmas.Bool.{and_parts}
use Rattle.std.proofs.lemmas.Bool.Decides.{nat_tests}
use Rattle.rv_event.specs.Words.{interrupt_of}
use Rattle.rv_text.specs.Names.{is_same_name}
use Rattle.rv_step.specs.Names.{DottedWord}
use Rattle.rv_step.specs.StepText.{StepWords, asked_of, asker_of, if_allowed, is_change, is_operator, line_or_task, step_of}
use Rattle.rv_step.specs.StepWords.{dotted_of}
use Rattle.rv_step.specs.declared.step.Asked.{Asked}
use Rattle.rv_step.specs.declared.step.Asker.{Asker}
use Rattle.rv_step.specs.declared.step.Asker.TheVariants.{Operator, Line, Task}
use Rattle.rv_shape.specs.Items.{◌>>=◌}
use Rattle.rv_misfit.specs.Asked.{IsNumbered}
use Rattle.rv_misfit.proofs.Options.{bind, never, same}

digit_low : (c : ℕ) → is_ascii_digit c ≡ true → c - 48 ≤ 9
digit_low c e = grind (arith, nat_tests, e)

interrupt_low : (word : List ℕ) (line : ℕ) → interrupt_of word ≡ Some line → line ≤ 9
interrupt_low word line e = by_test (length word == 5 && is_same_name (take 4 word) (codes "Int_") && is_ascii_digit (slice_index word 4)) refl e
  where
    by_test : (b : Bool) → (length word == 5 && is_same_name (take 4 word) (codes "Int_") && is_ascii_digit (slice_index word 4)) ≡ b → (if b then Some (slice_index word 4 - 48) else None) ≡ Some line → line ≤ 9
    by_test true t f =
        let digit = and_parts (length word == 5 && is_same_name (take 4 word) (codes "Int_")) (is_ascii_digit (slice_index word 4)) t in
        subst (λ (n : ℕ). n ≤ 9) (same (slice_index word 4 - 48) line f) (digit_low (slice_index word 4) digit.1)
    by_test false t f = never line f

asker_numbered : (word : List ℕ) (asker : Asker) → asker_of word ≡ Some asker → IsNumbered asker
asker_numbered word asker e = by_name (is_same_name word (codes "operator")) e
  where
    by_line : (o : Option ℕ) → interrupt_of word ≡ o → line_or_task word o ≡ Some asker → IsNumbered asker
    by_line (Some line) is f = subst IsNumbered (same (Line line) asker f) (interrupt_low word line is)
    by_line None is f =
        let name = bind (dotted_of word) (λ (n : DottedWord). Some (Task n)) asker f in
        subst IsNumbered (same (Task name.0) asker name.2) tt

    by_name : (b : Bool) → (if b then Some Operator else line_or_task word (interrupt_of word)) ≡ Some asker → IsNumbered asker
    by_name true f = subst IsNumbered (same Operator asker f) tt
    by_name false f = by_line (interrupt_of word) refl f

pub step_numbered : (words : List (List ℕ)) (step : StepWords) → step_of words ≡ Some step → IsNumbered step.asker
step_numbered [] step e = never step e
step_numbered (word ∷ words) step e =
    let asker = bind (asker_of word) (λ a. asked_of words >>= λ asked. if_allowed a asked) step e in
    let asked = bind (asked_of words) (λ d. if_allowed asker.0 d) step asker.2 in
    by_test (is_change asked.0 && not (is_operator asker.0)) asker.0 asked.0 (asker_numbered word asker.0 asker.1) asked.2
  where
    by_test : (b : Bool) (asker : Asker) (asked : Asked) → IsNumbered asker → (if b then None else Some (record { asker = asker; asked = asked })) ≡ Some step → IsNumbered step.asker
    by_test true asker asked n f = never step f
    by_test false asker asked n f = subst (λ (s : StepWords). IsNumbered s.asker) (same (record { asker = asker; asked = asked }) step f) n
