use Rattle.std.proofs.Common.{refl, sym, ◌∙◌, ap, ap₂}
use Rattle.std.proofs.lemmas.Result.{IfOk-weaker}
use Rattle.clap.specs.Words.{is_simple, subcommand_of}
use Rattle.rv_inquiry.proofs.Asking.{simple}
use Rattle.rv_inquiry.proofs.read.inquiry.Goals as goal

pub returns : goal.returns
returns c =
    let matches = (c.in-Ok-try_get_matches_from.ensures.matches (ap is_simple c.in-Ok.ensures ∙ simple)).1 in
    IfOk-weaker c.inquiry_of.result _ _
    (λ asked found. (found.0, sym (matches ∙ ap₂ subcommand_of c.in-Ok.ensures refl) ∙ found.1, found.2)) c.inquiry_of.ensures
