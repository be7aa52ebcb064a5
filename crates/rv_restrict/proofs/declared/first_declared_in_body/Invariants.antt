use Rattle.std.proofs.Common.{◌≡◌, drop, map}
use Rattle.rv_tree.specs.UnitView.{body_item_view}
use Rattle.rv_restrict.specs.Scope.{first_declared, declarations_of}
use Rattle.rv_restrict.proofs.declared.first_declared_in_body.Given as goal

abbrev pub invariant-loop-item : goal.invariant-loop-item
invariant-loop-item l =
    first_declared l.name (declarations_of (map body_item_view (drop l.item-index l.item-items)))
    ≡ first_declared l.name (declarations_of (map body_item_view l.item-items))
