use Rattle.std.proofs.Common.{◌≡◌, drop, map}
use Rattle.rv_tree.specs.DeclarationView.{element_view}
use Rattle.rv_restrict.specs.Found.{earlier}
use Rattle.rv_restrict.specs.DeclarationWalk.{elements_noted}
use Rattle.rv_restrict.proofs.declaration.elements.Given as goal

abbrev pub invariant-loop-one : goal.invariant-loop-one
invariant-loop-one l =
    elements_noted earlier l.had (map element_view (drop l.one-index l.list)) l.first
    ≡ elements_noted earlier l.had_before (map element_view l.list) l.initial.first
