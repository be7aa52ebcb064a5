use Rattle.std.proofs.Common.{◌≡◌, drop, map}
use Rattle.rv_tree.specs.BodyView.{exception_choice_view}
use Rattle.rv_scope.specs.Bound.{judged}
use Rattle.rv_scope.specs.UnitUses.{exceptions_uses}
use Rattle.rv_names.proofs.body.exceptions.Given as goal

abbrev pub invariant-loop-choice : goal.invariant-loop-choice
invariant-loop-choice l =
    exceptions_uses judged l.scope (map exception_choice_view (drop l.choice-index l.choice-items)) l.faults
    ≡ exceptions_uses judged l.scope (map exception_choice_view l.choice-items) l.initial.faults
