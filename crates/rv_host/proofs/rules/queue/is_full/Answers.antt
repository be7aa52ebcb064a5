use Rattle.std.proofs.Common.{refl}
use Rattle.rv_host.specs.Seen.{history_of}
use Rattle.rv_host.proofs.rules.queue.is_full.Goals as goal

pub returns : goal.returns
returns c = c.is_full.ensures (history_of c.args.seen.now) refl c.requires.is_waiting
