use Rattle.std.proofs.Common.{List, subst}
use Rattle.rv_shape.specs.Shape.{Shape}
use Rattle.rv_export.specs.Said.{AreActors, AreCalls}
use Rattle.rv_export.proofs.said.Said.renew.Goals as goal

pub returns : goal.returns
returns c = record {
  tabled = c.in_ok-renew.ensures;
  lines = c.in_ok-self.ensures;
  actors = subst (λ (ss : List Shape). AreActors c.in_ok-self-2.field-0.items ss) c.catalogue-catalogue.ensures c.in_ok-self-2.ensures;
  calls = subst (λ (ss : List Shape). AreCalls c.in_ok-self-3.field-0.items ss) c.catalogue-catalogue.ensures c.in_ok-self-3.ensures;
}
