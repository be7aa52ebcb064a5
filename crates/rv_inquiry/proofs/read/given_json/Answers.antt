use Rattle.std.proofs.Common.{◌∙◌, codes}
use Rattle.clap.specs.Matches.{found_of}
use Rattle.clap.proofs.WalkLemmas.{one_text-rows}
use Rattle.rv_inquiry.proofs.read.given_json.Goals as goal

pub returns : goal.returns
returns c =
    let text = one_text-rows (found_of c.args.words.now) (codes "json") in (
      (λ e. c.get_flag.ensures.none (text ∙ e)),
      (λ e. c.get_flag.ensures.value (text ∙ e)),
      (λ e. c.get_flag.ensures.other (text ∙ e)),
    )
