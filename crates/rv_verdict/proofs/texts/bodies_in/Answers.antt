use Rattle.rv_verdict.proofs.Bodied.{own_if}
use Rattle.rv_verdict.proofs.texts.bodies_in.Goals as goal

pub returns-in-Ok : goal.returns-in-Ok
returns-in-Ok c =
    own_if c.args.text.now c.args.catalogue.now c.args.shape.now c.in-Ok.unit c.bodies_if.result c.in-Ok.ensures c.bodies_if.ensures.own c.bodies_if.ensures.none
