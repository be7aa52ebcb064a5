use Rattle.std.proofs.Common.{◌≡◌, ◌-◌}
use Rattle.rv_tree.specs.StatementView.{alternatives_view}
use Rattle.rv_lex.specs.declared.kind.Kind.TheVariants as k
use Rattle.rv_grammar.specs.Reading.{many_from, sees}
use Rattle.rv_grammar.specs.StatementRules.{statement, alternative, alternatives}
use Rattle.rv_grammar.proofs.statement.Nested.alternatives.Given as goal

abbrev pub invariant-each : goal.invariant-each
invariant-each g l = alternatives (statement l.self.depth) l.fn.tokens ≡ many_from (sees k.When) (alternative (statement l.self.depth)) (l._turn-end - l._turn) (alternatives_view l.found.items) l.tokens
