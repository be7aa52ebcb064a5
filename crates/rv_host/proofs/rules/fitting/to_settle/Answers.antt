use Rattle.rv_host.specs.Seen.{history_of}
use Rattle.rv_host.proofs.rules.fitting.to_settle.Goals as goal

pub returns : goal.returns
returns c = c.to_settle.ensures (history_of c.args.seen.now) c.requires.is_present
