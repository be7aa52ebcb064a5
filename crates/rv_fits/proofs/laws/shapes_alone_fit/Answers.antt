use Rattle.rv_fits.proofs.Keeps.{alone_fits}
use Rattle.rv_fits.proofs.laws.shapes_alone_fit.Goals as goal

pub returns : goal.returns
returns c = alone_fits
