use Rattle.std.proofs.Common.{subst}
use Rattle.rv_behind.specs.Acting.{BodiesFit}
use Rattle.rv_port.specs.Ports.{Porting}
use Rattle.rv_port.proofs.port.Port.keeps.Goals as goal

pub returns-clause-fits : goal.returns-clause-fits
returns-clause-fits c = subst (λ (z : Porting). BodiesFit z.seen) c.self.view_is c.self.inside.asker.fits
