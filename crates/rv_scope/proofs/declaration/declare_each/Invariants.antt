use Rattle.std.proofs.Common.{◌≡◌, drop, map}
use Rattle.rv_tree.specs.DeclarationView.{declaration_view}
use Rattle.rv_scope.specs.DeclarationUses.{with_declarations}
use Rattle.rv_scope.proofs.declaration.declare_each.Given as goal

abbrev pub invariant-loop-one : goal.invariant-loop-one
invariant-loop-one l =
    with_declarations (map declaration_view (drop l.one-index l.one-items)) l.scope ≡ with_declarations (map declaration_view l.one-items) l.initial.scope
