use Rattle.rv_attend.proofs.GoingOn.{any_ok, if_ok, leaves_out}
use Rattle.rv_attend.proofs.tending.wait_prompted.Goals as goal

pub returns-in-Ok-Out-clause-hears : goal.returns-in-Ok-Out-clause-hears
returns-in-Ok-Out-clause-hears g c = if_ok c.of_run.result (λ goes. Unit {0}) _ (λ goes any. c.in-Ok-Out.ensures.hears) (any_ok c.of_run.result)

pub returns-in-Ok-Out-clause-goes : goal.returns-in-Ok-Out-clause-goes
returns-in-Ok-Out-clause-goes g c = leaves_out _ c.leave.result c.of_run.result c.leave.ensures.ends c.of_run.ensures (rw c.in-Ok-Out.field-0-is at c.in-Ok-Out.ensures.goes)
