use Rattle.rv_misfit.proofs.Told.{told_misuse}
use Rattle.rv_misfit.proofs.laws.told_requests_are_misuse.Goals as goal

pub returns : goal.returns
returns c = told_misuse
