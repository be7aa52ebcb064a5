use Rattle.std.proofs.Common.{◌∙◌, ap}
use Rattle.std.proofs.lemmas.Result.{IfOk-weaker}
use Rattle.clap.specs.Words.{app_of, with_rule}
use Rattle.rv_inquiry.proofs.args.about_list.Goals as goal

pub returns-clause-app : goal.returns-clause-app
returns-clause-app c =
    IfOk-weaker c.arg.result _ _ (λ r h. h.shape c.needed_arg-list.ensures.local ∙ ap (with_rule (app_of c.args.command)) c.needed_arg-list.ensures.rule) c.arg.ensures
