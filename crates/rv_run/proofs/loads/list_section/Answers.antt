use Rattle.std.proofs.Common.{Ok, Err, refl}
use Rattle.rv_run.proofs.loads.list_section.Goals as goal

pub returns-in-Ok : goal.returns-in-Ok
returns-in-Ok g c = (Ok c.in-Ok.list, c.in-Ok.ensures, (c.set_list.result, c.set_list.ensures, c.heard.ensures))

pub returns-in-Err : goal.returns-in-Err
returns-in-Err g c = (Err c.in-Err.failure, c.in-Err.ensures, (refl, refl))
