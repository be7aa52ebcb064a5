use Rattle.std.proofs.Common.{arith}
use Rattle.rv_host.specs.Seen.{history_of}
use Rattle.rv_host.proofs.rules.clock.ticks.Goals as goal

pub returns-clause-value : goal.returns-clause-value
returns-clause-value c = c.clock.ensures (history_of c.args.seen.now) c.requires.is_present

pub returns-clause-within : goal.returns-clause-within
returns-clause-within c = omega (arith, c.clock.ensures (history_of c.args.seen.now) c.requires.is_present, c.requires.timely)
