use Rattle.std.proofs.Common.{◌≡◌, drop}
use Rattle.rv_tree.specs.Expressions.{expressions_of}
use Rattle.rv_tree.specs.ExpressionView.{expressions_view}
use Rattle.rv_types.specs.Targets.{passed_onto}
use Rattle.rv_types.specs.LoopView.{passed_view}
use Rattle.rv_types.proofs.target.pass_all.Given as goal

abbrev pub invariant-loop-e : goal.invariant-loop-e
invariant-loop-e l =
    passed_onto l.point l.left (expressions_of (expressions_view (drop l.e-index l.e-items))) (passed_view l.passed)
    ≡ passed_onto l.point l.initial.left (expressions_of (expressions_view l.e-items)) (passed_view l.initial.passed)
