use Rattle.std.proofs.Common.{◌≡◌, ◌-◌}
use Rattle.rv_tree.specs.Expressions.{factor_by}
use Rattle.rv_tree.specs.ExpressionView.{factors_view}
use Rattle.rv_grammar.specs.ExpressionRules.{opening, inside, multiplying_of, linked, linked_from, factor, factors}
use Rattle.rv_grammar.proofs.expression.Grammar.factors.Given as goal

abbrev pub invariant-each : goal.invariant-each
invariant-each g l = factors (opening l.self.depth) (inside l.self.depth) l.fn.tokens ≡ linked_from multiplying_of (factor (opening l.self.depth) (inside l.self.depth)) factor_by (l._turn-end - l._turn) (factors_view l.found.items) l.tokens
