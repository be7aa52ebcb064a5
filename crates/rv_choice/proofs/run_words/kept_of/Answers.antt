use Rattle.std.proofs.Common.{◌∙◌, ap₂, codes}
use Rattle.clap.specs.Matches.{found_of}
use Rattle.clap.proofs.WalkLemmas.{first_value-rows}
use Rattle.rv_choice.specs.Choices.{sync_wrong_as}
use Rattle.rv_choice.proofs.run_words.kept_of.Goals as goal

pub returns-clause-ok : goal.returns-clause-ok
returns-clause-ok c =
    let given = found_of c.args.words.now in
    let name = c.get_str.ensures ∙ first_value-rows given (codes "journal") in
    let word = c.get_str-2.ensures ∙ first_value-rows given (codes "sync") in
    rw (← name, ← word) c.file_of.ensures.ok

pub returns-clause-wrong : goal.returns-clause-wrong
returns-clause-wrong c =
    let given = found_of c.args.words.now in
    let name = c.get_str.ensures ∙ first_value-rows given (codes "journal") in
    let word = c.get_str-2.ensures ∙ first_value-rows given (codes "sync") in
    c.file_of.ensures.wrong ∙ ap₂ sync_wrong_as name word
