use Rattle.std.proofs.Common.{◌≡◌, drop, map}
use Rattle.rv_tree.specs.DeclarationView.{declaration_view}
use Rattle.rv_scope.specs.Bound.{judged}
use Rattle.rv_scope.specs.DeclarationUses.{declarations_uses, with_declarations}
use Rattle.rv_names.proofs.declaration.declarations.Given as goal

abbrev pub invariant-loop-one : goal.invariant-loop-one
invariant-loop-one l = record {
  faults : declarations_uses judged l.scope (map declaration_view (drop l.one-index l.one-items)) l.faults
      ≡ declarations_uses judged l.initial.scope (map declaration_view l.one-items) l.initial.faults;
  scope : with_declarations (map declaration_view (drop l.one-index l.one-items)) l.scope ≡ with_declarations (map declaration_view l.one-items) l.initial.scope;
}
