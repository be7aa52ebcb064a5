use Rattle.std.proofs.Common.{◌≡◌, ◌∙◌, ap, ap₂, codes}
use Rattle.std.proofs.lemmas.Result.{IfOk-weaker}
use Rattle.clap.specs.Words.{App, app_of, with_subcommand}
use Rattle.rv_inquiry.specs.Inquiries.{alone, filtered_app}
use Rattle.rv_inquiry.proofs.Adding.{both}
use Rattle.rv_inquiry.proofs.command.of_entries.Goals as goal

pub returns : goal.returns
returns c =
    let one : app_of c.in_ok-command.command ≡ with_subcommand alone (filtered_app (codes "refusals")).top =
    both c.refusals.result _ _ _ c.in_ok-command.ensures c.refusals.ensures.app
    (λ s p q. p ∙ ap₂ with_subcommand c.program_alone-command.ensures (ap (λ (a : App). a.top) q)) in
    IfOk-weaker c.with_added-2.result _ _
    (λ r h. both c.waits.result _ _ _ h c.waits.ensures.app
    (λ s p q. p ∙ ap₂ with_subcommand one (ap (λ (a : App). a.top) q))) c.with_added-2.ensures
