use Rattle.std.proofs.Common.{◌≡◌, drop}
use Rattle.rv_tree.specs.NameView.{identifiers_view}
use Rattle.rv_scope.specs.ByPlace.{with_places}
use Rattle.rv_scope.proofs.by_place.ByPlace.note_all.Given as goal

abbrev pub invariant-loop-declared : goal.invariant-loop-declared
invariant-loop-declared g l =
    with_places l.self (identifiers_view (drop l.declared-index l.declared-items)) l.found
    ≡ with_places l.initial.self (identifiers_view l.declared-items) l.found
