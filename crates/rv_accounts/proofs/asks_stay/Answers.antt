use Rattle.rv_accounts.proofs.Growing.{asks_stay}
use Rattle.rv_accounts.proofs.asks_stay.Goals as goal

pub returns : goal.returns
returns c = asks_stay
