use Rattle.std.proofs.Common.{◌≡◌, drop, map}
use Rattle.rv_tree.specs.StatementView.{choice_view}
use Rattle.rv_types.specs.Loops.{choices_onto}
use Rattle.rv_types.proofs.choice.choices.Given as goal

abbrev pub invariant-loop-one : goal.invariant-loop-one
invariant-loop-one l =
    choices_onto l.point l.range (map choice_view (drop l.one-index l.one-items)) l.done.items
    ≡ choices_onto l.point l.range (map choice_view l.one-items) l.initial.done.items
