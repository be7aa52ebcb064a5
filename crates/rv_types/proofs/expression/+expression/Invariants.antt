use Rattle.std.proofs.Common.{◌≡◌, drop, map}
use Rattle.rv_tree.specs.Expressions.{expressions_of, factors_of, terms_of}
use Rattle.rv_tree.specs.ExpressionView.{expressions_view, factors_view, terms_view}
use Rattle.rv_code.specs.ExpressionView.{expression_view, link_view}
use Rattle.rv_types.specs.Typed.{factors_onto, terms_onto, logic_onto, arguments_onto}
use Rattle.rv_types.proofs.expression.+expression.Given as goal

abbrev pub invariant-factor_links-loop-factor : goal.invariant-factor_links-loop-factor
invariant-factor_links-loop-factor l =
    factors_onto l.point l.is_evaluated l.total (factors_of (factors_view (drop l.factor-index l.factor-items))) (map link_view l.links.items)
    ≡ factors_onto l.point l.is_evaluated l.initial.total (factors_of (factors_view l.factor-items)) (map link_view l.initial.links.items)

abbrev pub invariant-term_links-loop-term : goal.invariant-term_links-loop-term
invariant-term_links-loop-term l =
    terms_onto l.point l.is_evaluated l.sort l.total (terms_of (terms_view (drop l.term-index l.term-items))) (map link_view l.links.items)
    ≡ terms_onto l.point l.is_evaluated l.initial.sort l.initial.total (terms_of (terms_view l.term-items)) (map link_view l.initial.links.items)

abbrev pub invariant-logic_links-loop-e : goal.invariant-logic_links-loop-e
invariant-logic_links-loop-e l =
    logic_onto l.point l.is_evaluated l.operator l.before (expressions_of (expressions_view (drop l.e-index l.e-items))) (map link_view l.links.items)
    ≡ logic_onto l.point l.is_evaluated l.operator l.initial.before (expressions_of (expressions_view l.e-items)) (map link_view l.initial.links.items)

abbrev pub invariant-call::arguments-loop-e : goal.invariant-call::arguments-loop-e
invariant-call::arguments-loop-e l =
    arguments_onto l.point l.is_evaluated l.left (expressions_of (expressions_view (drop l.e-index l.e-items))) (map expression_view l.given.items)
    ≡ arguments_onto l.point l.is_evaluated l.initial.left (expressions_of (expressions_view l.e-items)) (map expression_view l.initial.given.items)
