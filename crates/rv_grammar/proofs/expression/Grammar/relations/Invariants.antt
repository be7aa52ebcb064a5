use Rattle.std.proofs.Common.{◌≡◌, ◌-◌}
use Rattle.rv_tree.specs.ExpressionView.{expressions_view}
use Rattle.rv_grammar.specs.ExpressionRules.{opening, inside, relations, relations_from}
use Rattle.rv_grammar.proofs.expression.Grammar.relations.Given as goal

abbrev pub invariant-each : goal.invariant-each
invariant-each g l = relations (opening l.self.depth) (inside l.self.depth) l.fn.operator l.fn.tokens ≡ relations_from (opening l.self.depth) (inside l.self.depth) l.operator (l._turn-end - l._turn) (expressions_view l.found.items) l.tokens
