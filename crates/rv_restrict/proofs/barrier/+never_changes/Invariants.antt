use Rattle.std.proofs.Common.{◌≡◌, drop, map}
use Rattle.rv_tree.specs.Expressions.{expressions_of, factors_of, terms_of}
use Rattle.rv_tree.specs.ExpressionView.{expressions_view, factors_view, terms_view}
use Rattle.rv_tree.specs.DeclarationView.{parameter_view}
use Rattle.rv_tree.specs.UnitView.{unit_view}
use Rattle.rv_restrict.specs.Barriers.{is_constant, never_change, factors_never_change, terms_never_change}
use Rattle.rv_restrict.proofs.barrier.+never_changes.Given as goal

abbrev pub invariant-never_change-loop-e : goal.invariant-never_change-loop-e
invariant-never_change-loop-e l =
    never_change (is_constant (unit_view l.tree) l.unit (map parameter_view l.parameters)) (expressions_of (expressions_view (drop l.e-index l.e-items)))
    ≡ never_change (is_constant (unit_view l.tree) l.unit (map parameter_view l.parameters)) (expressions_of (expressions_view l.e-items))

abbrev pub invariant-factors_never_change-loop-factor : goal.invariant-factors_never_change-loop-factor
invariant-factors_never_change-loop-factor l =
    factors_never_change (is_constant (unit_view l.tree) l.unit (map parameter_view l.parameters)) (factors_of (factors_view (drop l.factor-index l.factor-items)))
    ≡ factors_never_change (is_constant (unit_view l.tree) l.unit (map parameter_view l.parameters)) (factors_of (factors_view l.factor-items))

abbrev pub invariant-terms_never_change-loop-term : goal.invariant-terms_never_change-loop-term
invariant-terms_never_change-loop-term l =
    terms_never_change (is_constant (unit_view l.tree) l.unit (map parameter_view l.parameters)) (terms_of (terms_view (drop l.term-index l.term-items)))
    ≡ terms_never_change (is_constant (unit_view l.tree) l.unit (map parameter_view l.parameters)) (terms_of (terms_view l.term-items))
