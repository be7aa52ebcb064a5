use Rattle.std.proofs.Common.{rules, arith}
use Rattle.std.proofs.lemmas.Grind.{common_steps}
use Rattle.rv_tree.specs.StatementView.{selectives_view}
use Rattle.rv_grammar.specs.StatementRules.{statement, selectives, selectives_from}
use Rattle.rv_grammar.proofs.Turns.{one_more, no_more}
use Rattle.rv_grammar.proofs.statement.Nested.selectives.Goals as goal

pub each-init : goal.each-init
unfolding selectives
each-init g c = first_of (search rules, grind (arith, common_steps))

pub returns-in_err-selective : goal.returns-in_err-selective
unfolding selectives_from
returns-in_err-selective g c =
    let e = one_more (λ n. selectives_from (statement c.args.self.now.depth) n (selectives_view c.each.found.items) c.each.tokens) _ c.each._turn c.each-test.true c.each.invariant in
    first_of (search rules, grind (arith, common_steps))

pub returns-then-not-eat : goal.returns-then-not-eat
unfolding selectives_from
returns-then-not-eat g c =
    let e = one_more (λ n. selectives_from (statement c.args.self.now.depth) n (selectives_view c.each.found.items) c.each.tokens) _ c.each._turn c.each-test.true c.each.invariant in
    first_of (search rules, grind (arith, common_steps))

pub each-preserved : goal.each-preserved
unfolding selectives_from
each-preserved g c =
    let e = one_more (λ n. selectives_from (statement c.args.self.now.depth) n (selectives_view c.each.found.items) c.each.tokens) _ c.each._turn c.each-test.true c.each.invariant in
    first_of (search rules, grind (arith, common_steps))

pub returns : goal.returns
unfolding selectives_from
returns g c =
    let e = no_more (λ n. selectives_from (statement c.args.self.now.depth) n (selectives_view c.each.found.items) c.each.tokens) _ c.each._turn c.each-test.false c.each.invariant in
    first_of (search rules, grind (arith, common_steps))
