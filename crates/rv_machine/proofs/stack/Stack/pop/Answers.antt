use Rattle.std.proofs.Common.{refl}
use Rattle.rv_machine.proofs.Meetings.{off_alone}
use Rattle.rv_machine.proofs.stack.Stack.pop.Goals as goal

pub returns-clause-some : goal.returns-clause-some
returns-clause-some c = λ u.
    off_alone u c.args.self.now (record c.args.self.now { frames = c.pop.new.self }) (c.in_default.ensures.none refl) (c.in_default.ensures.same refl) refl (c.if-is_empty.ensures.no refl)
