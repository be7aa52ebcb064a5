use Rattle.std.proofs.Common.{◌∙◌}
use Rattle.rv_explained.proofs.UnderWay.{active_is}
use Rattle.rv_explained.proofs.bodies.active.Goals as goal

pub returns : goal.returns
returns c = λ are.
    c.greatest.ensures ∙ active_is c.args.host.now c.catalogue-catalogue.result.now c.args.actor c.base_priority.result c.args.bodies.now c.replays.ensures.legal c.catalogue-catalogue.ensures c.base_priority.ensures are
