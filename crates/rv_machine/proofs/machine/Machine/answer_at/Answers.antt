use Rattle.std.proofs.Common.{sym, subst}
use Rattle.rv_machine.specs.declared.point.Point.{Point}
use Rattle.rv_machine.specs.Machines.{IsAnswered}
use Rattle.rv_machine.proofs.NextSteps.{unasked}
use Rattle.rv_machine.proofs.machine.Machine.answer_at.Goals as goal

pub returns-in-Asks-clause-answered : goal.returns-in-Asks-clause-answered
returns-in-Asks-clause-answered c = subst (λ (x : Point). IsAnswered c.args.unit.now x c.args.self.now c.args.answer c.call_answered.new.self) (sym c.in-Asks.is) c.call_answered.ensures.answered

pub returns-in-Waits-clause-answered : goal.returns-in-Waits-clause-answered
returns-in-Waits-clause-answered c = subst (λ (x : Point). IsAnswered c.args.unit.now x c.args.self.now c.args.answer c.wait_answered.new.self) (sym c.in-Waits.is) c.wait_answered.ensures.answered

pub returns-in-Ends-clause-answered : goal.returns-in-Ends-clause-answered
returns-in-Ends-clause-answered c = subst (λ (x : Point). IsAnswered c.args.unit.now x c.args.self.now c.args.answer c.end_answered.new.self) (sym c.in-Ends.is) c.end_answered.ensures.answered

pub returns-in-Quits-clause-answered : goal.returns-in-Quits-clause-answered
returns-in-Quits-clause-answered c = subst (λ (x : Point). IsAnswered c.args.unit.now x c.args.self.now c.args.answer c.task_end_answered.new.self) (sym c.in-Quits.is) c.task_end_answered.ensures.answered

pub returns-in-Fires-clause-answered : goal.returns-in-Fires-clause-answered
returns-in-Fires-clause-answered c = subst (λ (x : Point). IsAnswered c.args.unit.now x c.args.self.now c.args.answer c.line_answered.new.self) (sym c.in-Fires.is) c.line_answered.ensures.answered

pub returns-in_default-clause-answered : goal.returns-in_default-clause-answered
returns-in_default-clause-answered c = absurd (c.requires.asks (unasked _ _ c.in_default.not-Asks c.in_default.not-Waits c.in_default.not-Ends c.in_default.not-Quits c.in_default.not-Fires))
