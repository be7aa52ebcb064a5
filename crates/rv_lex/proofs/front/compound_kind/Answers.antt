use Rattle.rv_lex.proofs.Lookup.{compound-long}
use Rattle.rv_lex.specs.Kinds.{kind_spelled, compound, spelling}
use Rattle.rv_lex.proofs.front.compound_kind.Goals as goal

pub returns-clause-long : goal.returns-clause-long
unfolding kind_spelled compound spelling
returns-clause-long c = compound-long _ _ c.lookup.ensures
