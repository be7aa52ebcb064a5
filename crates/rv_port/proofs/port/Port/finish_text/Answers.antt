use Rattle.std.proofs.Common.{subst, sym}
use Rattle.rv_port.specs.Ports.{Porting, pass_of}
use Rattle.rv_port.specs.Texts.{LeavesText}
use Rattle.rv_port.proofs.port.Port.finish_text.Goals as goal

pub returns-clause-leaves : goal.returns-clause-leaves
returns-clause-leaves g c =
    subst (λ (z : Porting). LeavesText c.args.self.refused (pass_of c.args.self) (pass_of z)) (sym c.finished.ensures.same)
    (subst (λ (z : Porting). LeavesText z.refused (pass_of z) c.quit_marked.new.asker.pass) c.self.view_is c.quit_marked.ensures.leaves)
