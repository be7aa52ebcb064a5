use Rattle.std.proofs.Common.{◌≡◌, drop, map}
use Rattle.rv_tree.specs.NameView.{identifier_view}
use Rattle.rv_scope.specs.Visible.{selected_all}
use Rattle.rv_scope.proofs.scope.Scope.selected_all.Given as goal

abbrev pub invariant-loop-identifier : goal.invariant-loop-identifier
invariant-loop-identifier l =
    selected_all l.self l.found (map identifier_view (drop l.identifier-index l.identifier-items))
    ≡ selected_all l.self l.initial.found (map identifier_view l.identifier-items)
