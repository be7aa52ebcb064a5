use Rattle.rv_accounts.proofs.Growing.{asks_grow}
use Rattle.rv_accounts.proofs.asks_grow.Goals as goal

pub returns : goal.returns
returns c = asks_grow
