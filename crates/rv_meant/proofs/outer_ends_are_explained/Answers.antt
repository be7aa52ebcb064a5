use Rattle.rv_meant.proofs.Explaining.{outer_ends}
use Rattle.rv_meant.proofs.outer_ends_are_explained.Goals as goal

pub returns : goal.returns
returns c = outer_ends
