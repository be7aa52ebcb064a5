use Rattle.rv_history.proofs.First.{names_first}
use Rattle.rv_history.proofs.laws.refusals.refusals_name_the_first_rule.Goals as goal

pub returns : goal.returns
returns c = names_first
