use Rattle.std.proofs.Common.{◌≡◌, ◌-◌}
use Rattle.rv_tree.specs.StatementView.{elsif_parts_view}
use Rattle.rv_lex.specs.declared.kind.Kind.TheVariants as k
use Rattle.rv_grammar.specs.Reading.{many_from, sees}
use Rattle.rv_grammar.specs.StatementRules.{statement, elsif_part, elsif_parts}
use Rattle.rv_grammar.proofs.statement.Nested.elsif_parts.Given as goal

abbrev pub invariant-each : goal.invariant-each
invariant-each g l = elsif_parts (statement l.self.depth) l.fn.tokens ≡ many_from (sees k.Elsif) (elsif_part (statement l.self.depth)) (l._turn-end - l._turn) (elsif_parts_view l.found.items) l.tokens
