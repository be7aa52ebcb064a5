use Rattle.std.proofs.Common.{sym, subst, ◌∙◌}
use Rattle.rv_code.specs.declared.expression.Callee.{Callee}
use Rattle.rv_frames.specs.Frames.{calls}
use Rattle.rv_machine.specs.Machines.{MovesTo}
use Rattle.rv_machine.specs.Stacks.{below}
use Rattle.rv_machine.proofs.CallSteps.{internal_is}
use Rattle.rv_machine.proofs.machine.Machine.call.Goals as goal

pub returns-in-Some-clause-moves : goal.returns-in-Some-clause-moves
returns-in-Some-clause-moves c = subst (λ (x : Callee). MovesTo c.args.unit.now (calls x c.args.values c.args.self.now.activation) (below c.args.unit.now c.args.self.now.stack) c.args.self.now.setting c.call_inside.new.self) (sym (internal_is _ _ (sym c.internal.ensures ∙ c.in-Some.is))) c.call_inside.ensures.moves
