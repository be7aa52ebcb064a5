use Rattle.std.proofs.Common.{◌≡◌, drop}
use Rattle.rv_tree.specs.Expressions.{expressions_of, factors_of, terms_of}
use Rattle.rv_tree.specs.ExpressionView.{expressions_view, factors_view, terms_view}
use Rattle.rv_scope.specs.Bound.{judged}
use Rattle.rv_scope.specs.ExpressionUses.{expressions_uses, factors_uses, terms_uses}
use Rattle.rv_names.proofs.expression.+expression.Given as goal

abbrev pub invariant-expressions-loop-e : goal.invariant-expressions-loop-e
invariant-expressions-loop-e l =
    expressions_uses judged l.scope (expressions_of (expressions_view (drop l.e-index l.e-items))) l.faults
    ≡ expressions_uses judged l.scope (expressions_of (expressions_view l.e-items)) l.initial.faults

abbrev pub invariant-factors-loop-factor : goal.invariant-factors-loop-factor
invariant-factors-loop-factor l =
    factors_uses judged l.scope (factors_of (factors_view (drop l.factor-index l.factor-items))) l.faults
    ≡ factors_uses judged l.scope (factors_of (factors_view l.factor-items)) l.initial.faults

abbrev pub invariant-terms-loop-term : goal.invariant-terms-loop-term
invariant-terms-loop-term l =
    terms_uses judged l.scope (terms_of (terms_view (drop l.term-index l.term-items))) l.faults
    ≡ terms_uses judged l.scope (terms_of (terms_view l.term-items)) l.initial.faults
