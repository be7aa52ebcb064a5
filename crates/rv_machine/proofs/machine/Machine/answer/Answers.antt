use Rattle.std.proofs.Common.{arith}
use Rattle.rv_machine.proofs.Fitting.{fits_on, roomy}
use Rattle.rv_machine.proofs.machine.Machine.answer.Goals as goal

pub answer_at-requires-clause-room : goal.answer_at-requires-clause-room
answer_at-requires-clause-room c = let room = roomy c.args.unit.now c.args.self.now c.requires.fits in omega (arith, room)

pub returns-clause-answered : goal.returns-clause-answered
returns-clause-answered c = c.answer_at.ensures.answered.follows

pub returns-clause-less : goal.returns-clause-less
returns-clause-less c = c.answer_at.ensures.answered.less

pub returns-clause-fits : goal.returns-clause-fits
returns-clause-fits c = fits_on c.args.unit.now c.args.self.now c.answer_at.new.self c.requires.fits c.answer_at.ensures.answered.low c.answer_at.ensures.kept
