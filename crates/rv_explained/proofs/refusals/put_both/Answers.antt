use Rattle.std.proofs.Common.{◌∙◌}
use Rattle.std.proofs.lemmas.Result.{on_ok_weaker}
use Rattle.rv_explained.proofs.refusals.put_both.Goals as goal

pub returns : goal.returns
returns c = on_ok_weaker c.put_priorities.result (λ put keeps. put (c.bodies.ensures ∙ keeps.bodies)) c.put_priorities.ensures
