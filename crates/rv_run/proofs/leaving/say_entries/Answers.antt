use Rattle.std.proofs.Common.{◌∙◌, List, ℕ, subst}
use Rattle.rv_script.proofs.Wrote.{nothing_yet}
use Rattle.rv_staff.specs.Saying.{Says}
use Rattle.rv_run.proofs.Ended.{says_so}
use Rattle.rv_run.proofs.leaving.say_entries.Goals as goal

pub returns-in-Ok-clause-said : goal.returns-in-Ok-clause-said
returns-in-Ok-clause-said g c =
    says_so _ _ _ c.say.result c.wrote.result
    (subst (λ (text : List ℕ). Says (g.W.Write.contents c.args.writer.now) (g.W.Write.contents c.say.new.writer) text c.say.result) (c.as_str.ensures.value ∙ c.in-Ok.ensures) c.say.ensures)
    c.wrote.ensures.same

pub returns-in-Err-clause-said : goal.returns-in-Err-clause-said
returns-in-Err-clause-said g c = nothing_yet _ _
