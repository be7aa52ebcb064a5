use Rattle.std.proofs.Common.{◌≡◌, drop, map}
use Rattle.std.specs.List.{list_any}
use Rattle.rv_tree.specs.BodyView.{local_view}
use Rattle.rv_restrict.specs.Scope.{is_type}
use Rattle.rv_restrict.proofs.mark.has_types.Given as goal

abbrev pub invariant-loop-one : goal.invariant-loop-one
invariant-loop-one l = list_any is_type (map local_view (drop l.one-index l.locals.items)) ≡ list_any is_type (map local_view l.locals.items)
