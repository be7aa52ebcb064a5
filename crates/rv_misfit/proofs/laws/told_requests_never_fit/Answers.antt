use Rattle.rv_misfit.proofs.Told.{told_unfit}
use Rattle.rv_misfit.proofs.laws.told_requests_never_fit.Goals as goal

pub returns : goal.returns
returns c = told_unfit
