use Rattle.rv_history.proofs.Headlined.{handed_lawful}
use Rattle.rv_history.proofs.laws.starts.handed_calls_violate_no_rule.Goals as goal

pub returns : goal.returns
returns c = handed_lawful
