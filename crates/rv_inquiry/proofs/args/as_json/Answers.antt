use Rattle.std.proofs.Common.{◌∙◌, ap}
use Rattle.std.proofs.lemmas.Result.{IfOk-weaker}
use Rattle.clap.specs.Words.{app_of, with_rule}
use Rattle.rv_inquiry.proofs.args.as_json.Goals as goal

pub returns-clause-app : goal.returns-clause-app
returns-clause-app c =
    IfOk-weaker c.arg.result _ _ (λ r h. h.shape c.flag-json.ensures.local ∙ ap (with_rule (app_of c.args.command)) c.flag-json.ensures.rule) c.arg.ensures
