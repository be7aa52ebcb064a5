use Rattle.std.proofs.Common.{◌≡◌, ◌-◌}
use Rattle.rv_tree.specs.StatementView.{selectives_view}
use Rattle.rv_grammar.specs.StatementRules.{statement, selectives, selectives_from}
use Rattle.rv_grammar.proofs.statement.Nested.selectives.Given as goal

abbrev pub invariant-each : goal.invariant-each
invariant-each g l = selectives (statement l.self.depth) l.fn.tokens ≡ selectives_from (statement l.self.depth) (l._turn-end - l._turn) (selectives_view l.found.items) l.tokens
