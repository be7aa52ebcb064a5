use Rattle.std.proofs.Common.{◌∙◌, ap, ap₂, refl}
use Rattle.std.proofs.lemmas.Result.{IfOk-weaker}
use Rattle.clap.specs.Words.{is_simple, subcommand_of}
use Rattle.rv_choice.proofs.Choosing.{simple}
use Rattle.rv_choice.proofs.files.journals_of.Goals as goal

pub returns : goal.returns
returns c =
    let matches = (c.in-Ok-try_get_matches_from.ensures.matches (ap is_simple c.in-Ok.ensures ∙ simple)).1 in
    IfOk-weaker c.journals_by.result _ _ (λ names h found e. h found (matches ∙ ap₂ subcommand_of c.in-Ok.ensures refl ∙ e)) c.journals_by.ensures
