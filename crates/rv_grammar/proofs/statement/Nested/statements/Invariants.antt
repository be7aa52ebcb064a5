use Rattle.std.proofs.Common.{◌≡◌, ◌-◌}
use Rattle.rv_tree.specs.StatementView.{statements_view}
use Rattle.rv_grammar.specs.Reading.{many_from}
use Rattle.rv_grammar.specs.StatementRules.{statement, sees_statement, statements}
use Rattle.rv_grammar.proofs.statement.Nested.statements.Given as goal

abbrev pub invariant-each : goal.invariant-each
invariant-each g l = statements (statement l.self.depth) l.fn.tokens ≡ many_from sees_statement (statement l.self.depth) (l._turn-end - l._turn) (statements_view l.found.items) l.tokens
