use Rattle.std.proofs.Common.{◌≡◌, arith}
use Rattle.rv_grammar.proofs.Depths.{statement_is}
use Rattle.rv_grammar.proofs.statement.+statement.Goals as goal

pub returns-then-depth-eq0 : goal.returns-then-depth-eq0
returns-then-depth-eq0 t c = let none : c.args.depth ≡ 0 = omega arith in rw none c.no_statement.ensures

pub returns : goal.returns
returns t c = rw (statement_is c.args.depth c.args.tokens.now (omega arith)) c.any.ensures
