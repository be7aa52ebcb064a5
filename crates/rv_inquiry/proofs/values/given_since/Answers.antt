use Rattle.std.proofs.Common.{◌∙◌, ap, codes, sym}
use Rattle.std.proofs.lemmas.Result.{IfOk-weaker}
use Rattle.clap.specs.Matches.{found_of}
use Rattle.clap.proofs.WalkLemmas.{first_value-rows}
use Rattle.rv_inquiry.specs.Inquiries.{from_of}
use Rattle.rv_inquiry.proofs.values.given_since.Goals as goal

pub returns : goal.returns
returns c =
    let name = c.get_str-word.ensures ∙ first_value-rows (found_of c.args.words.now) (codes "since") in
    let said = c.from_of.ensures ∙ ap from_of name in
    IfOk-weaker c.said_by.result _ _ (λ w h. sym said ∙ h) c.said_by.ensures
