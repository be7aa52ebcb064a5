use Rattle.std.proofs.Common.{◌∙◌, ap, ap₂}
use Rattle.std.proofs.lemmas.Result.{IfOk-weaker}
use Rattle.clap.specs.Words.{App, with_subcommand}
use Rattle.rv_inquiry.proofs.Adding.{both}
use Rattle.rv_inquiry.proofs.command.command.Goals as goal

pub returns : goal.returns
returns c =
    IfOk-weaker c.with_added.result _ _
    (λ r h. both c.export.result _ _ _ h c.export.ensures.app
    (λ s p q. p ∙ ap₂ with_subcommand c.in_ok-command.ensures (ap (λ (a : App). a.top) q))) c.with_added.ensures
