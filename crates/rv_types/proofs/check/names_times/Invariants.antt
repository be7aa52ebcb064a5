use Rattle.std.proofs.Common.{◌≡◌, drop}
use Rattle.rv_tree.specs.NameView.{names_view}
use Rattle.rv_types.specs.BodiesOf.{names_times}
use Rattle.rv_types.proofs.check.names_times.Given as goal

abbrev pub invariant-loop-name : goal.invariant-loop-name
invariant-loop-name l = names_times l.scope (names_view (drop l.name-index l.name-items)) ≡ names_times l.scope (names_view l.name-items)
