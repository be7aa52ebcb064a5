use Rattle.std.proofs.Common.{◌≡◌, ◌∙◌, ap, ap₂}
use Rattle.std.proofs.lemmas.Result.{IfOk-weaker}
use Rattle.clap.specs.Words.{app_of, with_rule}
use Rattle.rv_choice.specs.Choices.{explain_rule}
use Rattle.rv_choice.proofs.args.explained.Goals as goal

pub returns-clause-app : goal.returns-clause-app
returns-clause-app c =
    let one : app_of c.in_ok-arg.field-0 ≡ with_rule (app_of c.args.command) explain_rule =
    c.in_ok-arg.ensures.shape c.explain_flag.ensures.local ∙ ap (with_rule (app_of c.args.command)) c.explain_flag.ensures.rule in
    IfOk-weaker c.arg-2.result _ _ (λ r h. h.shape c.flag-silent.ensures.local ∙ ap₂ with_rule one c.flag-silent.ensures.rule) c.arg-2.ensures
