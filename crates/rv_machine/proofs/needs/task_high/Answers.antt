use Rattle.rv_machine.proofs.Needing.{task_low, no_task}
use Rattle.rv_machine.proofs.needs.task_high.Goals as goal

pub returns-in-Some : goal.returns-in-Some
returns-in-Some c = λ ts call are. task_low c.args.one call c.body_high.result ts c.args.task.now c.in-Some.body c.in-Some.is (c.body_high.ensures ts call are)

pub returns-in-None : goal.returns-in-None
returns-in-None c = λ ts call are. no_task c.args.one call ts c.args.task.now c.in-None.is
