use Rattle.rv_host.specs.Seen.{history_of}
use Rattle.rv_host.proofs.rules.exclusion.is_busy.Goals as goal

pub returns : goal.returns
returns c = c.is_busy.ensures (history_of c.args.seen.now) c.requires.is_present
