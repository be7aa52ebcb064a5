use Rattle.rv_staff.specs.Saying.{no_memory_line}
use Rattle.rv_run.proofs.Commanded.{says_on}
use Rattle.rv_run.proofs.command.tell_fault.Goals as goal

pub returns-in-Ok : goal.returns-in-Ok
returns-in-Ok g c = (_, says_on _ _ _ c.say.result c.said.result c.say.ensures c.said.ensures.same c.said.ensures.goes)

pub returns-in-Err : goal.returns-in-Err
returns-in-Err g c =
    (no_memory_line, says_on _ _ no_memory_line c.say-in-Err.result c.said-in-Err.result c.say-in-Err.ensures c.said-in-Err.ensures.same c.said-in-Err.ensures.goes)
