use Rattle.std.proofs.Common.{◌≡◌, drop, map}
use Rattle.rv_tree.specs.DeclarationView.{declaration_view}
use Rattle.rv_restrict.specs.Scope.{first_declared}
use Rattle.rv_restrict.proofs.declared.first_declared.Given as goal

abbrev pub invariant-loop-declaration : goal.invariant-loop-declaration
invariant-loop-declaration l =
    first_declared l.name (map declaration_view (drop l.declaration-index l.declaration-items)) ≡ first_declared l.name (map declaration_view l.declaration-items)
