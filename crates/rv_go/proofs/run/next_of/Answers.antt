use Rattle.rv_go.proofs.Behind.{stays, asks_so, ends_so}
use Rattle.rv_go.proofs.run.next_of.Goals as goal

pub returns-in-Asks-clause-asked : goal.returns-in-Asks-clause-asked
returns-in-Asks-clause-asked c = λ asks given behind.
    asks_so c.args.table.now c.next.new.self c.in-Asks.request asks given c.in-Asks.ensures.asks (stays c.args.table.now c.args.machine.now c.next.new.self asks given c.next.ensures.same behind)

pub returns-in-Ended-clause-asked : goal.returns-in-Ended-clause-asked
returns-in-Ended-clause-asked c = λ asks given behind.
    ends_so c.args.table.now c.next.new.self _ asks given c.in-Ended.ensures.ended (stays c.args.table.now c.args.machine.now c.next.new.self asks given c.next.ensures.same behind)
