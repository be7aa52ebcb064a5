use Rattle.std.proofs.Common.{ap}
use Rattle.rv_check.specs.Checks.{Adds, at_line, unit_line}
use Rattle.rv_check.proofs.Checking.{said_one}
use Rattle.rv_check.proofs.sections.add_unit.Goals as goal

pub returns-in-Ok : goal.returns-in-Ok
returns-in-Ok g c =
    said_one _ _ (at_line c.args.line (Adds c.args.catalogue.now c.add.new.self c.args.unit.now.shape)) (unit_line c.name.result.now) c.say.result
    (ap unit_line c.name.ensures, c.in-Ok.ensures.ok) (c.say.ensures _ c.unit_line.ensures)
