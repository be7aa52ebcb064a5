use Rattle.rv_spans.proofs.Order.{order_is}
use Rattle.rv_spans.proofs.sorted.Goals as goal

pub returns : goal.returns
returns c = order_is c.args.spans.items c.sort_unstable.new.self.items c.sort_unstable.ensures.permutation c.sort_unstable.ensures.sorted
