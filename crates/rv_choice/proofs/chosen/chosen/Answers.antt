use Rattle.std.proofs.Common.{◌≡◌, rules, refl, subst, sym, ◌∙◌, ap, ap₂}
use Rattle.std.specs.Prelude.{Result, Ok, Err}
use Rattle.clap.specs.Words.{is_simple, subcommand_of, subcommand_rows_of, takes}
use Rattle.rv_choice.specs.declared.misuse.Misuse.{Misuse}
use Rattle.rv_choice.specs.declared.selection.Selection.{Selection}
use Rattle.rv_choice.specs.Choices.{IsSelected, wrong_of}
use Rattle.rv_choice.proofs.Choosing.{simple, taken, line_named, line_right, line_unnamed}
use Rattle.rv_choice.proofs.chosen.chosen.Goals as goal

pub returns-in-Err-clause-line : goal.returns-in-Err-clause-line
returns-in-Err-clause-line c name choice is =
    let taking = ap₂ takes c.in-Ok.ensures is ∙ taken name choice in
    let kind = c.in-Err.ensures.passes taking in
    absurd (search rules)

pub returns-in-Err-clause-taken : goal.returns-in-Err-clause-taken
returns-in-Err-clause-taken c taking =
    let kind = c.in-Err.ensures.passes (ap₂ takes c.in-Ok.ensures refl ∙ taking) in
    absurd (search rules)

pub returns-in-Some-Ok-clause-ok : goal.returns-in-Some-Ok-clause-ok
returns-in-Some-Ok-clause-ok c =
    let matches = (c.in-Ok-try_get_matches_from.ensures.matches (ap is_simple c.in-Ok.ensures ∙ simple)).1 in
    let found = c.in-Some-Ok.ensures.found in
    let same : c.in-Some-Ok.field-0 ≡ Ok c.in-Some-Ok.selection = search rules in
    let picked : IsSelected found.0 (Ok c.in-Some-Ok.selection) = subst (λ (r : Result Selection Misuse). IsSelected found.0 r) same found.2 in
    (found.0, sym (matches ∙ ap₂ subcommand_of c.in-Ok.ensures refl) ∙ found.1, picked.0, picked.1)

pub returns-in-Some-Ok-clause-line : goal.returns-in-Some-Ok-clause-line
returns-in-Some-Ok-clause-line c name choice is =
    let matches = (c.in-Ok-try_get_matches_from.ensures.matches (ap is_simple c.in-Ok.ensures ∙ simple)).1 in
    let found = c.in-Some-Ok.ensures.found in
    let same : c.in-Some-Ok.field-0 ≡ Ok c.in-Some-Ok.selection = search rules in
    let picked : IsSelected found.0 (Ok c.in-Some-Ok.selection) = subst (λ (r : Result Selection Misuse). IsSelected found.0 r) same found.2 in
    (line_named name choice _ (subcommand_rows_of c.in-Ok-try_get_matches_from.matches) (matches ∙ ap₂ subcommand_of c.in-Ok.ensures is) found.0 found.1 picked.0.0, tt)

pub returns-in-Some-Err-clause-taken : goal.returns-in-Some-Err-clause-taken
returns-in-Some-Err-clause-taken c taking =
    let matches = (c.in-Ok-try_get_matches_from.ensures.matches (ap is_simple c.in-Ok.ensures ∙ simple)).1 in
    let found = c.in-Some-Err.ensures.found in
    let same : c.in-Some-Err.field-0 ≡ Err c.in-Some-Err.misuse = search rules in
    let picked : IsSelected found.0 (Err c.in-Some-Err.misuse) = subst (λ (r : Result Selection Misuse). IsSelected found.0 r) same found.2 in
    (found.0, sym (matches ∙ ap₂ subcommand_of c.in-Ok.ensures refl) ∙ found.1, picked)

pub returns-in-Some-Err-clause-line : goal.returns-in-Some-Err-clause-line
returns-in-Some-Err-clause-line c name choice is =
    let matches = (c.in-Ok-try_get_matches_from.ensures.matches (ap is_simple c.in-Ok.ensures ∙ simple)).1 in
    let found = c.in-Some-Err.ensures.found in
    let same : c.in-Some-Err.field-0 ≡ Err c.in-Some-Err.misuse = search rules in
    let picked : IsSelected found.0 (Err c.in-Some-Err.misuse) = subst (λ (r : Result Selection Misuse). IsSelected found.0 r) same found.2 in
    absurd (line_right name choice (subcommand_rows_of c.in-Ok-try_get_matches_from.matches) (matches ∙ ap₂ subcommand_of c.in-Ok.ensures is) found.0 found.1 (wrong_of c.in-Some-Err.misuse) picked)

pub returns-clause-taken : goal.returns-clause-taken
returns-clause-taken c taking found e =
    let matches = (c.in-Ok-try_get_matches_from.ensures.matches (ap is_simple c.in-Ok.ensures ∙ simple)).1 in
    c.in-None.ensures.none found (matches ∙ ap₂ subcommand_of c.in-Ok.ensures refl ∙ e)

pub returns-clause-line : goal.returns-clause-line
returns-clause-line c name choice is =
    let matches = (c.in-Ok-try_get_matches_from.ensures.matches (ap is_simple c.in-Ok.ensures ∙ simple)).1 in
    absurd (line_unnamed name choice (subcommand_rows_of c.in-Ok-try_get_matches_from.matches) (matches ∙ ap₂ subcommand_of c.in-Ok.ensures is) c.in-None.ensures.none)
