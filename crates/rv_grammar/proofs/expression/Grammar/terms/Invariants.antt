use Rattle.std.proofs.Common.{◌≡◌, ◌-◌}
use Rattle.rv_tree.specs.Expressions.{term_by}
use Rattle.rv_tree.specs.ExpressionView.{terms_view}
use Rattle.rv_grammar.specs.ExpressionRules.{opening, inside, adding_of, linked, linked_from, term, terms}
use Rattle.rv_grammar.proofs.expression.Grammar.terms.Given as goal

abbrev pub invariant-each : goal.invariant-each
invariant-each g l = terms (opening l.self.depth) (inside l.self.depth) l.fn.tokens ≡ linked_from adding_of (term (opening l.self.depth) (inside l.self.depth)) term_by (l._turn-end - l._turn) (terms_view l.found.items) l.tokens
