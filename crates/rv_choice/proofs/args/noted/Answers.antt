use Rattle.std.proofs.Common.{◌≡◌, ◌∙◌, ap, ap₂}
use Rattle.std.proofs.lemmas.Result.{IfOk-weaker}
use Rattle.clap.specs.Words.{app_of, with_rule}
use Rattle.rv_choice.specs.Choices.{notes_rule}
use Rattle.rv_choice.proofs.args.noted.Goals as goal

pub returns-clause-app : goal.returns-clause-app
returns-clause-app c =
    let one : app_of c.in_ok-arg.field-0 ≡ with_rule (app_of c.args.command) notes_rule =
    c.in_ok-arg.ensures.shape c.notes_flag.ensures.local ∙ ap (with_rule (app_of c.args.command)) c.notes_flag.ensures.rule in
    IfOk-weaker c.arg-2.result _ _ (λ r h. h.shape c.flag-are_errors.ensures.local ∙ ap₂ with_rule one c.flag-are_errors.ensures.rule) c.arg-2.ensures
