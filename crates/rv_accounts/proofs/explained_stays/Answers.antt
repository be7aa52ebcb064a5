use Rattle.rv_accounts.proofs.Staying.{stays}
use Rattle.rv_accounts.proofs.explained_stays.Goals as goal

pub returns : goal.returns
returns c = stays
