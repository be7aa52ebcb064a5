use Rattle.rv_host.specs.Seen.{history_of}
use Rattle.rv_host.proofs.rules.suspension.is_released.Goals as goal

pub returns : goal.returns
returns c = c.is_released.ensures (history_of c.args.seen.now) c.requires.seen.legal c.requires.seen.is_waiting c.requires.waits
