use Rattle.std.proofs.Common.{◌≡◌, drop}
use Rattle.rv_tree.specs.Expressions.{expressions_of, factors_of, terms_of}
use Rattle.rv_tree.specs.ExpressionView.{expressions_view, factors_view, terms_view}
use Rattle.rv_static.specs.Static.{product_of, sum_of, logic_of}
use Rattle.rv_static.proofs.value.+value.Given as goal

abbrev pub invariant-factors-loop-factor : goal.invariant-factors-loop-factor
invariant-factors-loop-factor g l =
    (product_of (g.N.Meanings.means l.names) l.is_evaluated l.total (factors_of (factors_view (drop l.factor-index l.factor-items)))
    ≡ product_of (g.N.Meanings.means l.names) l.is_evaluated l.initial.total (factors_of (factors_view l.factor-items)))
    × (l.faults ≡ l.initial.faults)

abbrev pub invariant-terms-loop-term : goal.invariant-terms-loop-term
invariant-terms-loop-term g l =
    (sum_of (g.N.Meanings.means l.names) l.is_evaluated l.total (terms_of (terms_view (drop l.term-index l.term-items)))
    ≡ sum_of (g.N.Meanings.means l.names) l.is_evaluated l.initial.total (terms_of (terms_view l.term-items)))
    × (l.faults ≡ l.initial.faults)

abbrev pub invariant-logic-loop-e : goal.invariant-logic-loop-e
invariant-logic-loop-e g l =
    (logic_of (g.N.Meanings.means l.names) l.is_evaluated l.operator l.total (expressions_of (expressions_view (drop l.e-index l.e-items)))
    ≡ logic_of (g.N.Meanings.means l.names) l.is_evaluated l.operator l.initial.total (expressions_of (expressions_view l.e-items)))
    × (l.faults ≡ l.initial.faults)
