use Rattle.std.proofs.Common.{◌≡◌, ◌∙◌, ap, ap₂}
use Rattle.std.proofs.lemmas.Result.{IfOk-weaker}
use Rattle.clap.specs.Words.{App, app_of, with_subcommand}
use Rattle.rv_inquiry.specs.Inquiries.{access_app, of_entries}
use Rattle.rv_inquiry.proofs.Adding.{both}
use Rattle.rv_inquiry.proofs.command.of_rights.Goals as goal

pub returns : goal.returns
returns c =
    let one : app_of c.in_ok-command-2.command ≡ with_subcommand of_entries access_app.top =
    both c.access.result _ _ _ c.in_ok-command-2.ensures c.access.ensures.app
    (λ s p q. p ∙ ap₂ with_subcommand c.in_ok-command.ensures (ap (λ (a : App). a.top) q)) in
    IfOk-weaker c.with_added-2.result _ _
    (λ r h. both c.who.result _ _ _ h c.who.ensures.app
    (λ s p q. p ∙ ap₂ with_subcommand one (ap (λ (a : App). a.top) q))) c.with_added-2.ensures
