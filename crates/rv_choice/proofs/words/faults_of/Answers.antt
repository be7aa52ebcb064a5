use Rattle.std.proofs.Common.{◌∙◌, codes}
use Rattle.clap.specs.Matches.{found_of}
use Rattle.clap.proofs.WalkLemmas.{one_text-rows}
use Rattle.rv_choice.proofs.words.faults_of.Goals as goal

pub returns : goal.returns
returns c =
    let given = found_of c.args.words.now in (
      c.get_flag.result,
      c.get_flag-2.result,
      (λ e. c.get_flag.ensures.value (one_text-rows given (codes "explain") ∙ e), λ e. c.get_flag.ensures.other (one_text-rows given (codes "explain") ∙ e)),
      (λ e. c.get_flag-2.ensures.value (one_text-rows given (codes "no-explain") ∙ e), λ e. c.get_flag-2.ensures.other (one_text-rows given (codes "no-explain") ∙ e)),
      c.explained_when.ensures,
    )
