use Rattle.std.proofs.Common.{◌≡◌, ◌++◌, drop}
use Rattle.rv_tree.specs.NameView.{identifiers_view}
use Rattle.rv_distinct.proofs.region.Region.declare_all.Given as goal

abbrev pub invariant-loop-identifier : goal.invariant-loop-identifier
invariant-loop-identifier l =
    l.self ++ identifiers_view (drop l.identifier-index l.identifiers) ≡ l.initial.self ++ identifiers_view l.identifiers
