use Rattle.std.proofs.Common.{◌≡◌, drop}
use Rattle.rv_tree.specs.Expressions.{expressions_of, factors_of, terms_of}
use Rattle.rv_tree.specs.ExpressionView.{expressions_view, factors_view, terms_view}
use Rattle.rv_types.specs.Points.{static_meaning}
use Rattle.rv_types.specs.StaticForm.{are_static, are_factors_static, are_terms_static}
use Rattle.rv_types.proofs.static_form.+static_form.Given as goal

abbrev pub invariant-are_factors_static-loop-factor : goal.invariant-are_factors_static-loop-factor
invariant-are_factors_static-loop-factor l =
    are_factors_static (static_meaning l.point) (factors_of (factors_view (drop l.factor-index l.factor-items)))
    ≡ are_factors_static (static_meaning l.point) (factors_of (factors_view l.factor-items))

abbrev pub invariant-are_static-loop-e : goal.invariant-are_static-loop-e
invariant-are_static-loop-e l =
    are_static (static_meaning l.point) (expressions_of (expressions_view (drop l.e-index l.e-items)))
    ≡ are_static (static_meaning l.point) (expressions_of (expressions_view l.e-items))

abbrev pub invariant-are_terms_static-loop-term : goal.invariant-are_terms_static-loop-term
invariant-are_terms_static-loop-term l =
    are_terms_static (static_meaning l.point) (terms_of (terms_view (drop l.term-index l.term-items)))
    ≡ are_terms_static (static_meaning l.point) (terms_of (terms_view l.term-items))
