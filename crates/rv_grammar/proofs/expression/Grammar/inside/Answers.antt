use Rattle.std.proofs.Common.{◌-◌, arith}
use Rattle.rv_grammar.proofs.Depths.{inside_is}
use Rattle.rv_grammar.proofs.expression.Grammar.inside.Goals as goal

pub returns : goal.returns
returns g c =
    rw (inside_is c.args.self.now.depth (c.args.self.now.depth - 1) c.args.tokens.now (omega arith))
    (c.requires.nests.reads (c.args.self.now.depth - 1) (omega arith) _ _ _ _ c.expression.ensures)
