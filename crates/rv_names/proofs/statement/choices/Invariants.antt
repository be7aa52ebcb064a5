use Rattle.std.proofs.Common.{◌≡◌, drop, map}
use Rattle.rv_tree.specs.StatementView.{choice_view}
use Rattle.rv_scope.specs.Bound.{judged}
use Rattle.rv_scope.specs.StatementUses.{choices_uses}
use Rattle.rv_names.proofs.statement.choices.Given as goal

abbrev pub invariant-loop-one : goal.invariant-loop-one
invariant-loop-one l =
    choices_uses judged l.scope (map choice_view (drop l.one-index l.one-items)) l.faults
    ≡ choices_uses judged l.scope (map choice_view l.one-items) l.initial.faults
