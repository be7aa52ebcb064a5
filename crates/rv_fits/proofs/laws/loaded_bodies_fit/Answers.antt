use Rattle.rv_fits.proofs.Found.{numbered_found, calls_found, ranges_found}
use Rattle.rv_fits.proofs.laws.loaded_bodies_fit.Goals as goal

pub returns : goal.returns
returns c = λ shapes shape unit e. (numbered_found shapes shape unit e, calls_found shapes shape unit e, ranges_found shapes shape unit e)
