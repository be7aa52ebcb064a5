use Rattle.std.proofs.Common.{rules}
use Rattle.rv_attend.proofs.Ticked.{asked_of}
use Rattle.rv_attend.proofs.ticking.ask.Goals as goal

pub returns-clause-asks : goal.returns-clause-asks
returns-clause-asks g c = asked_of c.args.ticks _ c.args.staff.now.control c.tick.new.self.control c.tick.result (search rules) c.tick.ensures.told
