use Rattle.std.proofs.Common.{rules, arith}
use Rattle.std.proofs.lemmas.Grind.{common_steps}
use Rattle.rv_grammar.specs.Reading.{kind}
use Rattle.rv_grammar.specs.StatementRules.{any_statement, simple_statement}
use Rattle.rv_grammar.proofs.statement.Nested.any.Goals as goal

pub returns-in_default : goal.returns-in_default
unfolding any_statement simple_statement kind
returns-in_default g c = first_of (search rules, grind (arith, common_steps))
