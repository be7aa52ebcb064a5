use Rattle.std.proofs.Common.{◌≡◌, ◌++◌, drop, map}
use Rattle.rv_code.specs.BodyView.{declaration_view}
use Rattle.rv_never.specs.Written.{of_declarations}
use Rattle.rv_never.proofs.calls.add_declarations.Given as goal

-- what is there, and then what the others call
abbrev pub invariant-loop-declaration : goal.invariant-loop-declaration
invariant-loop-declaration l =
    l.calls.items ++ of_declarations (map declaration_view (drop l.declaration-index l.declarations))
    ≡ l.initial.calls.items ++ of_declarations (map declaration_view l.declarations)
