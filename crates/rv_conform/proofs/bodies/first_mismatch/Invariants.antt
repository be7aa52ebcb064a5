use Rattle.std.proofs.Common.{◌≡◌, drop, map}
use Rattle.std.specs.List.{list_all}
use Rattle.rv_tree.specs.BodyView.{operation_body_view}
use Rattle.rv_conform.specs.Conforms.{completes_one}
use Rattle.rv_conform.proofs.bodies.first_mismatch.Given as goal

abbrev pub invariant-loop-body : goal.invariant-loop-body
invariant-loop-body l = record {
  scope : l.scope ≡ l.initial.scope;
  value : list_all (completes_one l.operations l.statics l.initial.scope) (map operation_body_view (drop l.body-index l.body-items))
      ≡ list_all (completes_one l.operations l.statics l.initial.scope) (map operation_body_view l.body-items);
}
