use Rattle.rv_actor.proofs.Served.{line_served}
use Rattle.rv_actor.proofs.serving.serve_read.Goals as goal

pub returns-in-Ok-clause-serves : goal.returns-in-Ok-clause-serves
returns-in-Ok-clause-serves g c = line_served _ _ _ _ _ _ _ _ c.in-Ok.is (rw c.as_str.ensures.value at c.answer.ensures.answers)
