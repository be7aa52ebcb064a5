use Rattle.std.proofs.Common.{◌≡◌, drop, map}
use Rattle.std.specs.List.{list_all}
use Rattle.rv_tree.specs.DeclarationView.{declaration_view}
use Rattle.rv_names.specs.EndNames.{declaration_ends}
use Rattle.rv_names.proofs.end_names.declarations_fault.Given as goal

abbrev pub invariant-loop-one : goal.invariant-loop-one
invariant-loop-one l =
    list_all declaration_ends (map declaration_view (drop l.one-index l.one-items)) ≡ list_all declaration_ends (map declaration_view l.one-items)
