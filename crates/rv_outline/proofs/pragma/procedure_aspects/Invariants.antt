use Rattle.std.proofs.Common.{◌≡◌, drop, map}
use Rattle.rv_tree.specs.NameView.{identifier_view}
use Rattle.rv_tree.specs.DeclarationView.{aspect_view}
use Rattle.rv_outline.specs.ProtectedUnits.{procedure_aspects_outlined}
use Rattle.rv_outline.proofs.pragma.procedure_aspects.Given as goal

abbrev pub invariant-loop-one : goal.invariant-loop-one
invariant-loop-one l =
    procedure_aspects_outlined l.scope (identifier_view l.declared) (map aspect_view (drop l.one-index l.list)) l.draft
    ≡ procedure_aspects_outlined l.scope (identifier_view l.declared) (map aspect_view l.list) l.initial.draft
