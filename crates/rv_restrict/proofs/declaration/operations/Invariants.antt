use Rattle.std.proofs.Common.{◌≡◌, drop, map}
use Rattle.rv_tree.specs.DeclarationView.{operation_view}
use Rattle.rv_restrict.specs.Found.{earlier}
use Rattle.rv_restrict.specs.DeclarationWalk.{operations_noted, had_entry}
use Rattle.std.specs.Prelude.{false}
use Rattle.rv_restrict.proofs.declaration.operations.Given as goal

abbrev pub invariant-loop-one : goal.invariant-loop-one
invariant-loop-one l =
    (operations_noted earlier l.had (map operation_view (drop l.one-index l.one-items)) l.first
    ≡ operations_noted earlier false (map operation_view l.one-items) l.initial.first)
    × (had_entry l.had (map operation_view (drop l.one-index l.one-items)) ≡ had_entry false (map operation_view l.one-items))
