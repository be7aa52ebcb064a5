use Rattle.rv_host.specs.Seen.{history_of}
use Rattle.rv_host.proofs.rules.fitting.innermost.Goals as goal

pub returns : goal.returns
returns c = c.innermost.ensures (history_of c.args.seen.now) c.requires.is_present
