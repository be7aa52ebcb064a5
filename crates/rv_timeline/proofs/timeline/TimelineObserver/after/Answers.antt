use Rattle.rv_reading.specs.Reads.{told}
use Rattle.rv_timeline.proofs.Looking.{then_follows}
use Rattle.rv_timeline.proofs.timeline.TimelineObserver.after.Goals as goal

pub returns : goal.returns
returns c = then_follows c.args.self.now c.clock-self.result c.args._units.now c.args.host.now (told c.args._deed.now) c.args._answer.now c.clock-self.ensures
