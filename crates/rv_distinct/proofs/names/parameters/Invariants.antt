use Rattle.std.proofs.Common.{◌≡◌, ◌++◌, drop, map}
use Rattle.rv_tree.specs.DeclarationView.{parameter_view}
use Rattle.rv_distinct.specs.Regions.{parameter_names}
use Rattle.rv_distinct.proofs.names.parameters.Given as goal

abbrev pub invariant-loop-one : goal.invariant-loop-one
invariant-loop-one l =
    l.region ++ parameter_names (map parameter_view (drop l.one-index l.one-items))
    ≡ l.initial.region ++ parameter_names (map parameter_view l.one-items)
