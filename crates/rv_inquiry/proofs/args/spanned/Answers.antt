use Rattle.std.proofs.Common.{◌≡◌, ◌∙◌, ap, ap₂, codes}
use Rattle.std.proofs.lemmas.Result.{IfOk-weaker}
use Rattle.clap.specs.Words.{app_of, with_rule}
use Rattle.rv_inquiry.specs.Inquiries.{value_rule}
use Rattle.rv_inquiry.proofs.args.spanned.Goals as goal

pub returns-clause-app : goal.returns-clause-app
returns-clause-app c =
    let one : app_of c.in_ok-arg.field-0 ≡ with_rule (app_of c.args.command) (value_rule (codes "from")) =
    c.in_ok-arg.ensures.shape c.valued-first.ensures.local ∙ ap (with_rule (app_of c.args.command)) c.valued-first.ensures.rule in
    IfOk-weaker c.arg-2.result _ _ (λ r h. h.shape c.valued-last.ensures.local ∙ ap₂ with_rule one c.valued-last.ensures.rule) c.arg-2.ensures
