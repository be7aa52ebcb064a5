use Rattle.std.proofs.Common.{◌≡◌, ◌∙◌, ap, ap₂, codes}
use Rattle.std.proofs.lemmas.Result.{IfOk-weaker}
use Rattle.clap.specs.Words.{app_of, with_rule}
use Rattle.rv_inquiry.specs.Inquiries.{flag_rule, value_rule}
use Rattle.rv_inquiry.proofs.args.over_journal.Goals as goal

pub returns-clause-app : goal.returns-clause-app
returns-clause-app c =
    let one : app_of c.in_ok-arg.field-0 ≡ with_rule (app_of c.args.command) (value_rule (codes "journal")) =
    c.in_ok-arg.ensures.shape c.valued-journal.ensures.local ∙ ap (with_rule (app_of c.args.command)) c.valued-journal.ensures.rule in
    let two : app_of c.in_ok-arg-2.field-0 ≡ with_rule (with_rule (app_of c.args.command) (value_rule (codes "journal"))) (flag_rule (codes "torn")) =
    c.in_ok-arg-2.ensures.shape c.flag-torn.ensures.local ∙ ap₂ with_rule one c.flag-torn.ensures.rule in
    IfOk-weaker c.arg-3.result _ _ (λ r h. h.shape c.valued-times.ensures.local ∙ ap₂ with_rule two c.valued-times.ensures.rule) c.arg-3.ensures
