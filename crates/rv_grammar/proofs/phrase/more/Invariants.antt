use Rattle.std.proofs.Common.{◌≡◌, ◌-◌, map}
use Rattle.rv_grammar.specs.Reading.{more_of, many_from}
use Rattle.rv_grammar.proofs.phrase.more.Given as goal

abbrev pub invariant-each : goal.invariant-each
invariant-each g l = more_of g.P.Phrase.starts g.P.Phrase.rule (map g.P.Phrase.view l.fn.found.items) l.fn.tokens ≡ many_from g.P.Phrase.starts g.P.Phrase.rule (l._turn-end - l._turn) (map g.P.Phrase.view l.found.items) l.tokens
