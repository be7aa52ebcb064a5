-- What `run` chooses.
use Rattle.std.proofs.Common.{◌≡◌, ◌∙◌, List, Option, Some, None, true≢false, codes, slice_index, ap, sym, subst}
use Rattle.std.specs.Prelude.{◌==◌, IfOk, Result, Ok, Err, false, option_map}
use Rattle.clap.specs.Walk.{Row, Text, first_of}
use Rattle.rv_choice.specs.declared.misuse.Misuse.{Misuse}
use Rattle.rv_choice.specs.declared.selection.Choice.{Choice}
use Rattle.rv_choice.specs.declared.selection.Choice.TheVariants.{Run}
use Rattle.rv_choice.specs.declared.selection.RunWords.{RunWords as GivenWords}
use Rattle.rv_choice.specs.declared.selection.Selection.{Selection}
use Rattle.rv_choice.specs.Choices.{Explains, ExplainsEnds, IsColored, IsExplaining, IsJournal, IsNoted, IsRun, IsRunning, IsScript, IsSelection, IsSubject, Names, RunWords, Tells, named_file, when_of, words_of}

run_no_audit : codes "run" ≡ codes "audit" → ⊥
run_no_audit e = true≢false (ap (λ (t : Text). slice_index t 0 == 114) e)

none_mapped : {X : Type 0} (f : X → Text) (o : Option X) → o ≡ None → option_map f o ≡ None
none_mapped f o none = ap (option_map f) none

-- by what its words say of what it does beside its commands, and of its script
pub run_picked : (found : Text × List Row) (run : GivenWords) (picked : Result Selection Misuse) → found.0 ≡ codes "run" → IsRun found.1 (words_of run)
    → IfOk picked (λ chosen. (chosen.choice ≡ Run) × (chosen.journal ≡ None) × (chosen.subject ≡ None) × (words_of chosen.run ≡ words_of run))
    → IfOk picked (λ chosen. Tells found.1 chosen.notes chosen.are_errors)
    → IfOk picked (λ chosen. Explains found.1 chosen.faults × (chosen.ends ≡ false))
    → IfOk picked (λ chosen. when_of (first_of (codes "color") found.1) ≡ Some chosen.color)
    → IfOk picked (λ chosen. option_map (λ n. n.now) chosen.file ≡ named_file (first_of (codes "file") found.1))
    → IfOk picked (λ chosen. IsSelection found chosen)
run_picked found run (Ok chosen) word runs given told explained coloured file =
    let is : Run ≡ chosen.choice = sym given.0 in (
      subst (λ (it : Choice). Names found it) is word,
      subst (λ (it : Option Text). IsJournal found it) (sym (none_mapped _ chosen.journal given.1)) (λ other. absurd (run_no_audit (sym word ∙ other))),
      subst (λ (it : Choice). IsNoted found it chosen.notes chosen.are_errors) is told,
      subst (λ (it : Choice). IsExplaining found it chosen.faults) is explained.0,
      subst (λ (it : Choice). ExplainsEnds found it chosen.ends) is explained.1,
      subst (λ (it : Choice). IsRunning found it (words_of chosen.run)) is (subst (λ (it : RunWords). IsRun found.1 it) (sym given.3) runs),
      subst (λ (it : Choice). IsColored found it chosen.color) is coloured,
      subst (λ (it : Choice). IsScript found it (option_map (λ name. name.now) chosen.file)) is file,
      subst (λ (it : Choice). IsSubject found it (option_map (λ name. name.now) chosen.subject)) is (none_mapped _ chosen.subject given.2),
    )
run_picked found run (Err misuse) word runs given told explained coloured file = tt
