use Rattle.std.proofs.Common.{◌≡◌, drop}
use Rattle.rv_tree.specs.NameView.{identifiers_view}
use Rattle.rv_types.specs.Blocks.{noting_all}
use Rattle.rv_types.proofs.block.note_constants.Given as goal

abbrev pub invariant-loop-name : goal.invariant-loop-name
invariant-loop-name l = record {
  code : noting_all l.range l.value (identifiers_view (drop l.name-index l.name-items)) l.point
      ≡ noting_all l.range l.value (identifiers_view l.name-items) l.initial.point;
  scope : l.point.scope ≡ l.initial.point.scope;
}
