use Rattle.std.proofs.Common.{◌≡◌, drop, map}
use Rattle.rv_tree.specs.DeclarationView.{declaration_view}
use Rattle.rv_conform.specs.Conforms.{behind_all}
use Rattle.rv_conform.proofs.package.declarations.Given as goal

abbrev pub invariant-loop-one : goal.invariant-loop-one
invariant-loop-one l =
    behind_all (map declaration_view (drop l.one-index l.one-items)) l.seen ≡ behind_all (map declaration_view l.one-items) l.initial.seen
