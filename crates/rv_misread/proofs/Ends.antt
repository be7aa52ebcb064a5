-- Behind the scalars of an end its exit decides whether it is one.
use Rattle.std.proofs.Common.{◌≡◌, ℕ, List, refl, sym}
use Rattle.std.specs.Prelude.{Option, Some, None, is_none}
use Rattle.rv_event.specs.declared.entry.Exit.{Exit}
use Rattle.rv_event.specs.Words.{Scalared, scalars_of}
use Rattle.rv_step.specs.Ends.{exit_of}
use Rattle.rv_step.specs.StepText.{end_of}

pub end_by_exit : (words : List (List ℕ)) (found : Scalared) → Some found ≡ scalars_of words
    → is_none (end_of words) ≡ is_none (exit_of found.rest)
end_by_exit words found is = by_exit (exit_of found.rest) refl
  where
    by_exit : (exit : Option Exit) → exit_of found.rest ≡ exit → is_none (end_of words) ≡ is_none (exit_of found.rest)
    by_exit None none = rw (sym is, none) refl
    by_exit (Some exit) some = rw (sym is, some) refl
