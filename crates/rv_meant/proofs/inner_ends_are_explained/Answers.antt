use Rattle.rv_meant.proofs.Explaining.{inner_ends}
use Rattle.rv_meant.proofs.inner_ends_are_explained.Goals as goal

pub returns : goal.returns
returns c = inner_ends
