use Rattle.std.proofs.Common.{◌≡◌, drop}
use Rattle.rv_tree.specs.Expressions.{expressions_of, factors_of, terms_of}
use Rattle.rv_tree.specs.ExpressionView.{expressions_view, factors_view, terms_view}
use Rattle.rv_tree.specs.ExpressionPrint.{more_arguments_onto, factors_onto, terms_onto, relations_onto}
use Rattle.rv_tree.proofs.print_expression.+print_expression.Given as goal

abbrev pub invariant-print_arguments-loop-e : goal.invariant-print_arguments-loop-e
invariant-print_arguments-loop-e l =
    more_arguments_onto (expressions_of (expressions_view (drop l.e-index l.more))) l.out
    ≡ more_arguments_onto (expressions_of (expressions_view l.more)) l.initial.out

abbrev pub invariant-print_factors-loop-factor : goal.invariant-print_factors-loop-factor
invariant-print_factors-loop-factor l =
    factors_onto (factors_of (factors_view (drop l.factor-index l.factor-items))) l.out
    ≡ factors_onto (factors_of (factors_view l.factor-items)) l.initial.out

abbrev pub invariant-print_relations-loop-e : goal.invariant-print_relations-loop-e
invariant-print_relations-loop-e l =
    relations_onto l.operator (expressions_of (expressions_view (drop l.e-index l.e-items))) l.out
    ≡ relations_onto l.operator (expressions_of (expressions_view l.e-items)) l.initial.out

abbrev pub invariant-print_terms-loop-term : goal.invariant-print_terms-loop-term
invariant-print_terms-loop-term l =
    terms_onto (terms_of (terms_view (drop l.term-index l.term-items))) l.out
    ≡ terms_onto (terms_of (terms_view l.term-items)) l.initial.out
