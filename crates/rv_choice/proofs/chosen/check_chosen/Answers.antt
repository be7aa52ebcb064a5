use Rattle.std.proofs.Common.{rules, ◌∙◌, codes}
use Rattle.clap.specs.Matches.{found_of}
use Rattle.clap.specs.Walk.{one_of, rows_of}
use Rattle.clap.proofs.WalkLemmas.{one_text-rows}
use Rattle.rv_choice.specs.Choices.{IsFlag}
use Rattle.rv_choice.proofs.chosen.check_chosen.Goals as goal

pub returns-clause-ok : goal.returns-clause-ok
returns-clause-ok c =
    let given = found_of c.args.words.now in
    let is : IsFlag (one_of (codes "script") (rows_of given)) c.get_flag.result =
    (λ e. c.get_flag.ensures.value (one_text-rows given (codes "script") ∙ e), λ e. c.get_flag.ensures.other (one_text-rows given (codes "script") ∙ e)) in
    search rules
