use Rattle.std.proofs.Common.{◌∙◌, codes}
use Rattle.clap.specs.Matches.{found_of}
use Rattle.clap.proofs.WalkLemmas.{one_text-rows}
use Rattle.rv_choice.proofs.chosen.script_chosen.Goals as goal

pub returns-clause-told : goal.returns-clause-told
returns-clause-told c =
    let given = found_of c.args.words.now in (
      c.in-Ok.ensures.notes,
      (λ e. c.get_flag.ensures.value (one_text-rows given (codes "warnings-are-errors") ∙ e), λ e. c.get_flag.ensures.other (one_text-rows given (codes "warnings-are-errors") ∙ e)),
    )
