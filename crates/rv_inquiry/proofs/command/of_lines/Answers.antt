use Rattle.std.proofs.Common.{◌≡◌, ◌∙◌, ap, ap₂, codes}
use Rattle.std.proofs.lemmas.Result.{IfOk-weaker}
use Rattle.clap.specs.Words.{App, app_of, with_subcommand}
use Rattle.rv_inquiry.specs.Inquiries.{filtered_app, of_rights}
use Rattle.rv_inquiry.proofs.Adding.{both}
use Rattle.rv_inquiry.proofs.command.of_lines.Goals as goal

pub returns : goal.returns
returns c =
    let one : app_of c.in_ok-command-2.command ≡ with_subcommand of_rights (filtered_app (codes "hits")).top =
    both c.hits.result _ _ _ c.in_ok-command-2.ensures c.hits.ensures.app
    (λ s p q. p ∙ ap₂ with_subcommand c.in_ok-command.ensures (ap (λ (a : App). a.top) q)) in
    IfOk-weaker c.with_added-2.result _ _
    (λ r h. both c.what_if.result _ _ _ h c.what_if.ensures.app
    (λ s p q. p ∙ ap₂ with_subcommand one (ap (λ (a : App). a.top) q))) c.with_added-2.ensures
