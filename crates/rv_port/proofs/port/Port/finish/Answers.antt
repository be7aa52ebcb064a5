use Rattle.std.proofs.Common.{subst, sym}
use Rattle.rv_port.specs.Calls.{Quits}
use Rattle.rv_port.specs.Ports.{Porting, pass_of}
use Rattle.rv_port.proofs.port.Port.finish.Goals as goal

pub returns-clause-quits : goal.returns-clause-quits
returns-clause-quits g c =
    subst (λ (z : Porting). Quits (pass_of c.args.self) (pass_of z)) (sym c.finished.ensures.same)
    (subst (λ (z : Porting). Quits (pass_of z) c.quit.new.asker.pass) c.self.view_is c.quit.ensures.quits)

pub finished-requires : goal.finished-requires
finished-requires g c = record { explained = c.quit.ensures.explains c.self.invariant }
