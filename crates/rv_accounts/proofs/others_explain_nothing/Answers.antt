use Rattle.rv_accounts.proofs.Staying.{others}
use Rattle.rv_accounts.proofs.others_explain_nothing.Goals as goal

pub returns : goal.returns
returns c = others
