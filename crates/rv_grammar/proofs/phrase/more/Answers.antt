use Rattle.std.proofs.Common.{rules, arith, map}
use Rattle.std.proofs.lemmas.Grind.{common_steps}
use Rattle.rv_grammar.specs.Reading.{more_of, many_from}
use Rattle.rv_grammar.proofs.Turns.{one_more, no_more}
use Rattle.rv_grammar.proofs.phrase.more.Goals as goal

pub each-init : goal.each-init
unfolding more_of
each-init g c = first_of (search rules, grind (arith, common_steps))

pub returns-then-not-begins : goal.returns-then-not-begins
unfolding many_from
returns-then-not-begins g c =
    let e = one_more (λ n. many_from g.P.Phrase.starts g.P.Phrase.rule n (map g.P.Phrase.view c.each.found.items) c.each.tokens) _ c.each._turn c.each-test.true c.each.invariant in
    first_of (search rules, grind (arith, common_steps))

pub returns-in_err-read : goal.returns-in_err-read
unfolding many_from
returns-in_err-read g c =
    let e = one_more (λ n. many_from g.P.Phrase.starts g.P.Phrase.rule n (map g.P.Phrase.view c.each.found.items) c.each.tokens) _ c.each._turn c.each-test.true c.each.invariant in
    first_of (search rules, grind (arith, common_steps))

pub each-preserved : goal.each-preserved
unfolding many_from
each-preserved g c =
    let e = one_more (λ n. many_from g.P.Phrase.starts g.P.Phrase.rule n (map g.P.Phrase.view c.each.found.items) c.each.tokens) _ c.each._turn c.each-test.true c.each.invariant in
    first_of (search rules, grind (arith, common_steps))

pub returns : goal.returns
unfolding many_from
returns g c =
    let e = no_more (λ n. many_from g.P.Phrase.starts g.P.Phrase.rule n (map g.P.Phrase.view c.each.found.items) c.each.tokens) _ c.each._turn c.each-test.false c.each.invariant in
    first_of (search rules, grind (arith, common_steps))
