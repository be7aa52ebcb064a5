use Rattle.std.proofs.Common.{◌≡◌, drop, map}
use Rattle.rv_tree.specs.DeclarationView.{task_item_view}
use Rattle.rv_scope.specs.Bound.{judged}
use Rattle.rv_scope.specs.DeclarationUses.{task_items_uses}
use Rattle.rv_names.proofs.declaration.task_items.Given as goal

abbrev pub invariant-loop-item : goal.invariant-loop-item
invariant-loop-item l =
    task_items_uses judged l.scope (map task_item_view (drop l.item-index l.item-items)) l.faults
    ≡ task_items_uses judged l.scope (map task_item_view l.item-items) l.initial.faults
