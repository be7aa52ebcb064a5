use Rattle.std.proofs.Common.{◌≡◌, drop}
use Rattle.rv_tree.specs.Expressions.{expressions_of, factors_of, terms_of}
use Rattle.rv_tree.specs.ExpressionView.{expressions_view, factors_view, terms_view}
use Rattle.rv_restrict.specs.Found.{earlier}
use Rattle.rv_restrict.specs.ExpressionWalk.{expressions_noted, factors_noted, terms_noted}
use Rattle.rv_restrict.proofs.expression.+expression.Given as goal

abbrev pub invariant-expressions-loop-e : goal.invariant-expressions-loop-e
invariant-expressions-loop-e l =
    expressions_noted earlier (expressions_of (expressions_view (drop l.e-index l.e-items))) l.first
    ≡ expressions_noted earlier (expressions_of (expressions_view l.e-items)) l.initial.first

abbrev pub invariant-factors-loop-factor : goal.invariant-factors-loop-factor
invariant-factors-loop-factor l =
    factors_noted earlier (factors_of (factors_view (drop l.factor-index l.factor-items))) l.first
    ≡ factors_noted earlier (factors_of (factors_view l.factor-items)) l.initial.first

abbrev pub invariant-terms-loop-term : goal.invariant-terms-loop-term
invariant-terms-loop-term l =
    terms_noted earlier (terms_of (terms_view (drop l.term-index l.term-items))) l.first
    ≡ terms_noted earlier (terms_of (terms_view l.term-items)) l.initial.first
