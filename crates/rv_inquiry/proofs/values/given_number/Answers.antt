use Rattle.std.proofs.Common.{◌∙◌, ap, sym}
use Rattle.std.proofs.lemmas.Result.{IfOk-weaker}
use Rattle.clap.specs.Matches.{found_of}
use Rattle.clap.proofs.WalkLemmas.{first_value-rows}
use Rattle.rv_inquiry.specs.Inquiries.{number_of}
use Rattle.rv_inquiry.proofs.values.given_number.Goals as goal

pub returns : goal.returns
returns c =
    let name = c.get_str-word.ensures ∙ first_value-rows (found_of c.args.words.now) c.args.name.now in
    let said = c.number_of.ensures ∙ ap number_of name in
    IfOk-weaker c.said_by.result _ _ (λ w h. sym said ∙ h) c.said_by.ensures
