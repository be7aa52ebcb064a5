use Rattle.std.proofs.Common.{◌≡◌, ◌∙◌, ap, ap₂}
use Rattle.std.proofs.lemmas.Result.{IfOk-weaker}
use Rattle.clap.specs.Words.{App, app_of, with_subcommand}
use Rattle.rv_choice.specs.Choices.{alone, audited, checked, playing, running}
use Rattle.rv_choice.proofs.Adding.{both}
use Rattle.rv_choice.proofs.command.command.Goals as goal

pub returns : goal.returns
returns c =
    let one : app_of c.in_ok-command.command ≡ with_subcommand alone playing.top =
    both c.play_subcommand.result _ _ _ c.in_ok-command.ensures c.play_subcommand.ensures.app
    (λ s p q. p ∙ ap₂ with_subcommand c.program_alone-command.ensures (ap (λ (a : App). a.top) q)) in
    let two : app_of c.in_ok-command-2.command ≡ with_subcommand (with_subcommand alone playing.top) checked.top =
    both c.check_subcommand.result _ _ _ c.in_ok-command-2.ensures c.check_subcommand.ensures.app
    (λ s p q. p ∙ ap₂ with_subcommand one (ap (λ (a : App). a.top) q)) in
    let three : app_of c.in_ok-command-3.command ≡ with_subcommand (with_subcommand (with_subcommand alone playing.top) checked.top) running.top =
    both c.run_subcommand.result _ _ _ c.in_ok-command-3.ensures c.run_subcommand.ensures.app
    (λ s p q. p ∙ ap₂ with_subcommand two (ap (λ (a : App). a.top) q)) in
    let four : app_of c.in_ok-command-4.command ≡ with_subcommand (with_subcommand (with_subcommand (with_subcommand alone playing.top) checked.top) running.top) audited.top =
    both c.audit_subcommand.result _ _ _ c.in_ok-command-4.ensures c.audit_subcommand.ensures.app
    (λ s p q. p ∙ ap₂ with_subcommand three (ap (λ (a : App). a.top) q)) in
    IfOk-weaker c.with_added-5.result _ _
    (λ r h. both c.manual_subcommand.result _ _ _ h c.manual_subcommand.ensures.app
    (λ s p q. p ∙ ap₂ with_subcommand four (ap (λ (a : App). a.top) q))) c.with_added-5.ensures
