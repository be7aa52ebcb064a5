use Rattle.rv_fits.proofs.Keeps.{calls_keep}
use Rattle.rv_fits.proofs.laws.calls_keep_fitting.Goals as goal

pub returns : goal.returns
returns c = calls_keep
