use Rattle.rv_host.specs.Seen.{history_of}
use Rattle.rv_host.proofs.due.waits.stance_of.Goals as goal

pub returns : goal.returns
returns c = c.stance.ensures (history_of c.args.seen.now) c.requires.is_present
