use Rattle.std.proofs.Common.{refl}
use Rattle.rv_machine.proofs.Fitting.{fits_from, line_low}
use Rattle.rv_machine.proofs.Starts.{nothing_waits, line_starts}
use Rattle.rv_machine.specs.Stacks.{below}
use Rattle.rv_machine.specs.declared.point.Point.TheVariants as point
use Rattle.rv_machine.proofs.machine.Machine.start_line.Goals as goal

pub returns-clause-stands : goal.returns-clause-stands
returns-clause-stands c = line_starts c.args.unit.now c.args.object c.args.number c.of_body.result (below c.args.unit.now c.args.stack) (nothing_waits c.args.unit.now c.args.stack c.requires.empty c.requires.alone)

pub returns-clause-fits : goal.returns-clause-fits
returns-clause-fits c =
    fits_from c.args.unit.now c.args.stack (record { point = point.Fires c.args.object c.args.number; activation = c.no_activation.result; setting = c.of_body.result; stack = c.args.stack }) c.requires refl
    (line_low c.args.unit.now c.args.object c.args.number c.of_body.result (below c.args.unit.now c.args.stack) (nothing_waits c.args.unit.now c.args.stack c.requires.empty c.requires.alone))
