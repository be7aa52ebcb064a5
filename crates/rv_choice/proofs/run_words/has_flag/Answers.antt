use Rattle.std.proofs.Common.{◌∙◌}
use Rattle.clap.specs.Matches.{found_of}
use Rattle.clap.proofs.WalkLemmas.{one_text-rows}
use Rattle.rv_choice.proofs.run_words.has_flag.Goals as goal

pub returns : goal.returns
returns c =
    let given = found_of c.args.words.now in
    let name = c.args.name.now in
    (λ e. c.get_flag.ensures.value (one_text-rows given name ∙ e), λ e. c.get_flag.ensures.other (one_text-rows given name ∙ e))
