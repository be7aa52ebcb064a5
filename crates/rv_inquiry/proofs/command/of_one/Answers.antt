use Rattle.std.proofs.Common.{◌≡◌, ◌∙◌, ap, ap₂, codes}
use Rattle.std.proofs.lemmas.Result.{IfOk-weaker}
use Rattle.clap.specs.Words.{App, app_of, with_subcommand}
use Rattle.rv_inquiry.specs.Inquiries.{entry_app, of_lines}
use Rattle.rv_inquiry.proofs.Adding.{both}
use Rattle.rv_inquiry.proofs.command.of_one.Goals as goal

pub returns : goal.returns
returns c =
    let one : app_of c.in_ok-command-2.command ≡ with_subcommand of_lines (entry_app (codes "state")).top =
    both c.state.result _ _ _ c.in_ok-command-2.ensures c.state.ensures.app
    (λ s p q. p ∙ ap₂ with_subcommand c.in_ok-command.ensures (ap (λ (a : App). a.top) q)) in
    let two : app_of c.in_ok-command-3.command ≡ with_subcommand (with_subcommand of_lines (entry_app (codes "state")).top) (entry_app (codes "explain")).top =
    both c.explain.result _ _ _ c.in_ok-command-3.ensures c.explain.ensures.app
    (λ s p q. p ∙ ap₂ with_subcommand one (ap (λ (a : App). a.top) q)) in
    IfOk-weaker c.with_added-3.result _ _
    (λ r h. both c.timeline.result _ _ _ h c.timeline.ensures.app
    (λ s p q. p ∙ ap₂ with_subcommand two (ap (λ (a : App). a.top) q))) c.with_added-3.ensures
