use Rattle.rv_accounts.proofs.FollowedLater.{stays}
use Rattle.rv_accounts.proofs.followed_stays.Goals as goal

pub returns : goal.returns
returns c = stays
