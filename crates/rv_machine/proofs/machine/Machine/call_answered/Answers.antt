use Rattle.std.proofs.Common.{sym, ◌∙◌}
use Rattle.rv_flat.specs.Tables.{trees}
use Rattle.rv_machine.proofs.NextSteps.{call_settled, call_waits}
use Rattle.rv_machine.proofs.machine.Machine.call_answered.Goals as goal

pub returns-in-Settled-clause-answered : goal.returns-in-Settled-clause-answered
returns-in-Settled-clause-answered c = call_settled c.args.unit.now c.args.callee c.args.values c.args.self.now c.reach.new.self c.args.answer _ (sym c.replied.ensures ∙ c.in-Settled.is) (c.reach.ensures.reaches (trees c.args.unit.now.code)) c.reach.ensures.stack c.reach.ensures.setting

pub returns-in-Waits-clause-answered : goal.returns-in-Waits-clause-answered
returns-in-Waits-clause-answered c = call_waits c.args.unit.now c.args.callee c.args.values c.args.self.now c.args.answer (sym c.replied.ensures ∙ c.in-Waits.is)
