use Rattle.rv_host.specs.Seen.{history_of}
use Rattle.rv_host.proofs.rules.ceiling.is_above.Goals as goal

pub returns : goal.returns
returns c = c.is_above.ensures (history_of c.args.seen.now) c.requires.is_present c.base_priority.ensures
