use Rattle.std.proofs.Common.{◌≡◌, ◌∙◌, ap, ap₂, codes}
use Rattle.std.proofs.lemmas.Result.{IfOk-weaker}
use Rattle.clap.specs.Words.{app_of, with_rule}
use Rattle.rv_inquiry.specs.Inquiries.{flag_rule}
use Rattle.rv_inquiry.proofs.args.drawn.Goals as goal

pub returns-clause-app : goal.returns-clause-app
returns-clause-app c =
    let one : app_of c.in_ok-arg.field-0 ≡ with_rule (app_of c.args.command) (flag_rule (codes "text")) =
    c.in_ok-arg.ensures.shape c.flag-text.ensures.local ∙ ap (with_rule (app_of c.args.command)) c.flag-text.ensures.rule in
    IfOk-weaker c.arg-2.result _ _ (λ r h. h.shape c.flag-svg.ensures.local ∙ ap₂ with_rule one c.flag-svg.ensures.rule) c.arg-2.ensures
