use Rattle.std.proofs.Common.{◌≡◌, ◌-◌}
use Rattle.rv_tree.specs.ExpressionView.{expressions_view}
use Rattle.rv_grammar.specs.ExpressionRules.{opening, inside, arguments, arguments_from}
use Rattle.rv_grammar.proofs.expression.Grammar.arguments.Given as goal

abbrev pub invariant-each : goal.invariant-each
invariant-each g l = arguments (opening l.self.depth) (inside l.self.depth) l.fn.tokens ≡ arguments_from (opening l.self.depth) (inside l.self.depth) (l._turn-end - l._turn) (expressions_view l.found.items) l.tokens
