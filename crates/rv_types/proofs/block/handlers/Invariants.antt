use Rattle.std.proofs.Common.{◌≡◌, drop, map}
use Rattle.rv_tree.specs.BodyView.{handler_view as tree_handler_view}
use Rattle.rv_code.specs.BodyView.{handler_view}
use Rattle.rv_types.specs.Blocks.{handlers_onto}
use Rattle.rv_types.proofs.block.handlers.Given as goal

abbrev pub invariant-loop-one : goal.invariant-loop-one
invariant-loop-one l = record {
  point : l.point ≡ l.initial.point;
  done : handlers_onto l.initial.point (map tree_handler_view (drop l.one-index l.one-items)) (map handler_view l.done.items)
      ≡ handlers_onto l.initial.point (map tree_handler_view l.one-items) (map handler_view l.initial.done.items);
}
