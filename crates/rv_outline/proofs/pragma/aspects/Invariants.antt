use Rattle.std.proofs.Common.{◌≡◌, drop, map}
use Rattle.rv_tree.specs.DeclarationView.{aspect_view}
use Rattle.rv_outline.specs.ProtectedUnits.{aspects_outlined}
use Rattle.rv_outline.proofs.pragma.aspects.Given as goal

abbrev pub invariant-loop-one : goal.invariant-loop-one
invariant-loop-one l =
    aspects_outlined l.scope (map aspect_view (drop l.one-index l.one-items)) l.draft ≡ aspects_outlined l.scope (map aspect_view l.one-items) l.initial.draft
