use Rattle.std.proofs.Common.{◌≡◌, drop, map}
use Rattle.rv_tree.specs.DeclarationView.{task_item_view}
use Rattle.rv_outline.specs.ProtectedUnits.{task_items_outlined}
use Rattle.rv_outline.proofs.task.task_items.Given as goal

abbrev pub invariant-loop-item : goal.invariant-loop-item
invariant-loop-item l =
    task_items_outlined l.scope (map task_item_view (drop l.item-index l.item-items)) l.draft ≡ task_items_outlined l.scope (map task_item_view l.item-items) l.initial.draft
