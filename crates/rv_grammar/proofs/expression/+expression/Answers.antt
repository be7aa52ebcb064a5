use Rattle.rv_grammar.proofs.Depths.{expression_is}
use Rattle.rv_grammar.proofs.expression.+expression.Goals as goal

pub returns : goal.returns
returns t c = rw (expression_is c.args.depth c.args.tokens.now) c.whole.ensures
