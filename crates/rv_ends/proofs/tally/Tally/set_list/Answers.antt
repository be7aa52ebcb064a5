use Rattle.rv_ends.proofs.Counting.{took_list}
use Rattle.rv_ends.proofs.tally.Tally.set_list.Goals as goal

pub returns : goal.returns
returns c = took_list c.args.self.now c.set_list.ensures
