use Rattle.std.proofs.Common.{ap}
use Rattle.rv_fault.specs.Parts.{section_of}
use Rattle.rv_check.specs.Scripts.{OfSteps, steps_line}
use Rattle.rv_check.proofs.Checking.{said_one}
use Rattle.rv_check.proofs.Judged.{steps_told}
use Rattle.rv_check.proofs.script.check_steps.Goals as goal

pub returns-in-Ok : goal.returns-in-Ok
returns-in-Ok g c =
    said_one _ _ (OfSteps c.args.catalogue.now (section_of c.args.part.now)) (steps_line c.in-Ok.count) c.say.result
    (c.in-Ok.ensures.0, ap steps_line c.in-Ok.ensures.1) (c.say.ensures _ c.steps_line.ensures)

pub returns-in-Err : goal.returns-in-Err
returns-in-Err g c = steps_told c.args.catalogue.now (section_of c.args.part.now) (g.W.Write.contents c.args.writer.now) c.in-Err.failure c.in-Err.ensures
