use Rattle.std.proofs.Common.{◌≡◌, drop, map, Some}
use Rattle.rv_tree.specs.NameView.{identifier_view}
use Rattle.rv_scope.specs.Visible.{child_library}
use Rattle.rv_scope.proofs.find.child_library.Given as goal

abbrev pub invariant-loop-identifier : goal.invariant-loop-identifier
invariant-loop-identifier l =
    child_library l.found (map identifier_view (drop l.identifier-index l.more)) ≡ child_library (Some l.fn.library) (map identifier_view l.more)
