use Rattle.rv_accounts.proofs.Staying.{nothing}
use Rattle.rv_accounts.proofs.nothing_to_explain.Goals as goal

pub returns : goal.returns
returns c = nothing
