use Rattle.std.proofs.Common.{arith, rules}
use Rattle.std.proofs.lemmas.Grind.{common_steps}
use Rattle.rv_grammar.proofs.Depths.{opening_is}
use Rattle.rv_grammar.proofs.expression.Grammar.opening.Goals as goal

pub returns-clause-reads : goal.returns-clause-reads
returns-clause-reads g c = rw (opening_is c.args.self.now.depth c.args.tokens.now (omega arith)) (first_of (search rules, grind (arith, common_steps)))

pub returns-clause-some : goal.returns-clause-some
returns-clause-some g c = λ h. omega arith
