use Rattle.std.proofs.Common.{◌≡◌, drop}
use Rattle.rv_code.specs.ExpressionView.{expressions_view}
use Rattle.rv_ranged.specs.Ranged.{all_give, given_ranges}
use Rattle.rv_ranged.proofs.arguments.all_give.Given as goal

abbrev pub invariant-loop-parameter : goal.invariant-loop-parameter
invariant-loop-parameter l =
    all_give (given_ranges (drop l.parameter-index l.parameters)) (expressions_view l.left)
    ≡ all_give (given_ranges l.parameters) (expressions_view l.initial.left)
