use Rattle.std.proofs.Common.{◌∙◌, ap, ap₂, refl}
use Rattle.clap.specs.Words.{is_simple, subcommand_of}
use Rattle.rv_choice.proofs.Choosing.{simple}
use Rattle.rv_choice.proofs.files.files_of.Goals as goal

pub returns-in-Ok-files_by : goal.returns-in-Ok-files_by
returns-in-Ok-files_by c = λ found e.
    let matches = (c.in-Ok-try_get_matches_from.ensures.matches (ap is_simple c.in-Ok.ensures ∙ simple)).1 in
    c.in-Ok-files_by.ensures found (matches ∙ ap₂ subcommand_of c.in-Ok.ensures refl ∙ e)
