use Rattle.std.proofs.Common.{codes, refl}
use Rattle.clap.specs.Matches.{found_of}
use Rattle.clap.specs.Walk.{rows_of}
use Rattle.rv_choice.proofs.RunPicked.{run_picked}
use Rattle.rv_choice.proofs.chosen.run_chosen.Goals as goal

pub returns-in-Ok-clause-ok : goal.returns-in-Ok-clause-ok
returns-in-Ok-clause-ok c =
    run_picked (codes "run", rows_of (found_of c.args.words.now)) c.in-Ok.run' c.script_chosen.result refl c.in-Ok.ensures.ok c.script_chosen.ensures.given c.script_chosen.ensures.told c.script_chosen.ensures.explained
    c.script_chosen.ensures.coloured c.script_chosen.ensures.file
