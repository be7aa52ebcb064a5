use Rattle.std.proofs.Common.{◌≡◌, drop, map}
use Rattle.rv_tree.specs.DeclarationView.{aspect_view}
use Rattle.rv_scope.specs.Bound.{judged}
use Rattle.rv_scope.specs.DeclarationUses.{aspects_uses}
use Rattle.rv_names.proofs.pragma.aspects.Given as goal

abbrev pub invariant-loop-aspect : goal.invariant-loop-aspect
invariant-loop-aspect l =
    aspects_uses judged l.scope (map aspect_view (drop l.aspect-index l.aspect-items)) l.faults
    ≡ aspects_uses judged l.scope (map aspect_view l.aspect-items) l.initial.faults
