use Rattle.std.proofs.Common.{◌≡◌, ◌-◌, map}
use Rattle.rv_grammar.specs.Reading.{more_after, many_from, sees, behind}
use Rattle.rv_grammar.proofs.phrase.more_after.Given as goal

abbrev pub invariant-each : goal.invariant-each
invariant-each g l = more_after l.fn.between g.P.Phrase.rule (map g.P.Phrase.view l.fn.found.items) l.fn.tokens ≡ many_from (sees l.between) (behind g.P.Phrase.rule) (l._turn-end - l._turn) (map g.P.Phrase.view l.found.items) l.tokens
