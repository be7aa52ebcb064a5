use Rattle.std.proofs.Common.{sym}
use Rattle.rv_exec.specs.Next.{settling}
use Rattle.rv_go.proofs.Behind.{settles, settles_not}
use Rattle.rv_go.proofs.run.settle.Goals as goal

pub returns-then-stands-clause-behind : goal.returns-then-stands-clause-behind
returns-then-stands-clause-behind c = λ asks given behind. settles_not c.args.table.now c.args.machine.now c.args.answer asks given (sym c.if-stands.ensures) behind

pub returns-clause-behind : goal.returns-clause-behind
returns-clause-behind c = λ asks given behind. settles c.args.table.now c.go_on.new.machine c.args.answer asks given (sym c.if-stands.ensures) (c.go_on.ensures.behind asks (settling given) behind)
