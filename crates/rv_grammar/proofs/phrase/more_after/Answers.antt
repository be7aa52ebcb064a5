use Rattle.std.proofs.Common.{rules, arith, map}
use Rattle.std.proofs.lemmas.Grind.{common_steps}
use Rattle.rv_grammar.specs.Reading.{more_after, more_of, many_from, sees, behind, after}
use Rattle.rv_grammar.proofs.Turns.{one_more, no_more}
use Rattle.rv_grammar.proofs.phrase.more_after.Goals as goal

pub each-init : goal.each-init
unfolding more_after more_of
each-init g c = first_of (search rules, grind (arith, common_steps))

pub returns-then-not-eat : goal.returns-then-not-eat
unfolding many_from after
returns-then-not-eat g c =
    let e = one_more (λ n. many_from (sees c.args.between) (behind g.P.Phrase.rule) n (map g.P.Phrase.view c.each.found.items) c.each.tokens) _ c.each._turn c.each-test.true c.each.invariant in
    first_of (search rules, grind (arith, common_steps))

pub returns-in_err-read : goal.returns-in_err-read
unfolding many_from after
returns-in_err-read g c =
    let e = one_more (λ n. many_from (sees c.args.between) (behind g.P.Phrase.rule) n (map g.P.Phrase.view c.each.found.items) c.each.tokens) _ c.each._turn c.each-test.true c.each.invariant in
    first_of (search rules, grind (arith, common_steps))

pub each-preserved : goal.each-preserved
unfolding many_from after
each-preserved g c =
    let e = one_more (λ n. many_from (sees c.args.between) (behind g.P.Phrase.rule) n (map g.P.Phrase.view c.each.found.items) c.each.tokens) _ c.each._turn c.each-test.true c.each.invariant in
    first_of (search rules, grind (arith, common_steps))

pub returns : goal.returns
unfolding many_from after
returns g c =
    let e = no_more (λ n. many_from (sees c.args.between) (behind g.P.Phrase.rule) n (map g.P.Phrase.view c.each.found.items) c.each.tokens) _ c.each._turn c.each-test.false c.each.invariant in
    first_of (search rules, grind (arith, common_steps))
