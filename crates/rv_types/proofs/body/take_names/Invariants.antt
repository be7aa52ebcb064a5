use Rattle.std.proofs.Common.{◌≡◌, drop}
use Rattle.rv_tree.specs.NameView.{identifiers_view}
use Rattle.rv_types.specs.BodiesOf.{names_taken}
use Rattle.rv_types.proofs.body.take_names.Given as goal

abbrev pub invariant-loop-name : goal.invariant-loop-name
invariant-loop-name l = record {
  code : names_taken l.parameters (identifiers_view (drop l.name-index l.name-items)) l.point
      ≡ names_taken l.parameters (identifiers_view l.name-items) l.initial.point;
  scope : l.point.scope ≡ l.initial.point.scope;
}
