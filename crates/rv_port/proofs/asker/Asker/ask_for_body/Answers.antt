use Rattle.rv_port.proofs.Asking.{sent_of, unsent_of}
use Rattle.rv_port.proofs.Settles.{answer_told, worn_told}
use Rattle.rv_port.proofs.Endings.{course_told, course_worn}
use Rattle.rv_port.proofs.asker.Asker.ask_for_body.Goals as goal

pub returns-in_default-clause-went : goal.returns-in_default-clause-went
returns-in_default-clause-went g c never =
    worn_told c.args.self.now.pass c.insist.new.self.pass c.args.request.now never.0 (unsent_of c.args.self.now.pass c.insist.new.self.pass c.args.request.now c.new-letter.result.request c.insist.new.letter.answer c.insist.new.letter.begun c.insist.new.letter.lent c.insist.result c.in_default.field-0 c.insist.ensures.reply c.new-letter.ensures c.in_default.is)

pub returns-clause-went : goal.returns-clause-went
returns-clause-went g c never =
    let given = sent_of c.args.self.now.pass c.insist.new.self.pass c.args.request.now c.new-letter.result.request c.insist.new.letter.answer c.insist.new.letter.begun c.insist.new.letter.lent c.insist.result _ c.insist.ensures.reply c.new-letter.ensures c.in-Ok.is in
    answer_told c.args.self.now.pass c.insist.new.self.pass c.settle.new.self.pass c.args.request.now c.insist.new.letter.answer c.told_of.result c.insist.new.letter.begun c.insist.new.letter.lent never.0 given.0 given.1 c.told_of.ensures c.settle.ensures.settles

pub returns-in_default-clause-course : goal.returns-in_default-clause-course
returns-in_default-clause-course g c =
    course_worn c.args.self.now.course c.past-self.result c.args.self.now.pass c.insist.new.self.pass c.args.request.now c.args.self.now.held
    (unsent_of c.args.self.now.pass c.insist.new.self.pass c.args.request.now c.new-letter.result.request c.insist.new.letter.answer c.insist.new.letter.begun c.insist.new.letter.lent c.insist.result c.in_default.field-0 c.insist.ensures.reply c.new-letter.ensures c.in_default.is)
    c.args.self.now.counts c.past-self.ensures

pub returns-clause-course : goal.returns-clause-course
returns-clause-course g c =
    let given = sent_of c.args.self.now.pass c.insist.new.self.pass c.args.request.now c.new-letter.result.request c.insist.new.letter.answer c.insist.new.letter.begun c.insist.new.letter.lent c.insist.result _ c.insist.ensures.reply c.new-letter.ensures c.in-Ok.is in
    course_told c.args.self.now.course c.past-self-2.result c.args.self.now.pass c.insist.new.self.pass c.settle.new.self.pass c.args.request.now c.insist.new.letter.answer c.told_of.result c.insist.new.letter.begun c.insist.new.letter.lent c.args.self.now.held c.stop_of.result
    given c.told_of.ensures c.settle.ensures.settles c.args.self.now.counts c.stop_of.ensures c.past-self-2.ensures
