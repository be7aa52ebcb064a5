use Rattle.std.proofs.Common.{◌∙◌, ap, ap₂, sym}
use Rattle.std.proofs.lemmas.Result.{IfOk-weaker}
use Rattle.clap.specs.Matches.{found_of}
use Rattle.clap.proofs.WalkLemmas.{first_value-rows}
use Rattle.rv_choice.specs.Choices.{number_of, wrong_as}
use Rattle.rv_choice.proofs.run_words.given_number.Goals as goal

pub returns-clause-ok : goal.returns-clause-ok
returns-clause-ok c =
    let name = c.get_str-word.ensures ∙ first_value-rows (found_of c.args.words.now) c.args.name.now in
    let said = c.number_of.ensures ∙ ap (number_of c.args.most) name in
    IfOk-weaker c.said_by.result _ _ (λ n h. sym said ∙ h) c.said_by.ensures.ok

pub returns-clause-wrong : goal.returns-clause-wrong
returns-clause-wrong c =
    let name = c.get_str-word.ensures ∙ first_value-rows (found_of c.args.words.now) c.args.name.now in
    let said = c.number_of.ensures ∙ ap (number_of c.args.most) name in
    c.said_by.ensures.wrong ∙ ap₂ (wrong_as c.args.flag) name said
