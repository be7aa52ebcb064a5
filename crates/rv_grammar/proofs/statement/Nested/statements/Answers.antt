use Rattle.std.proofs.Common.{rules, arith}
use Rattle.std.proofs.lemmas.Grind.{common_steps}
use Rattle.rv_tree.specs.StatementView.{statements_view}
use Rattle.rv_grammar.specs.Reading.{many_from, at_least_one, more_of}
use Rattle.rv_grammar.specs.StatementRules.{statement, sees_statement, statements}
use Rattle.rv_grammar.proofs.Turns.{one_more, no_more}
use Rattle.rv_grammar.proofs.statement.Nested.statements.Goals as goal

pub returns-in_err-inner : goal.returns-in_err-inner
unfolding statements at_least_one more_of
returns-in_err-inner g c = first_of (search rules, grind (arith, common_steps))

pub each-init : goal.each-init
unfolding statements at_least_one more_of
each-init g c = first_of (search rules, grind (arith, common_steps))

pub returns-then-not-begins_statement : goal.returns-then-not-begins_statement
unfolding many_from
returns-then-not-begins_statement g c =
    let e = one_more (λ n. many_from sees_statement (statement c.args.self.now.depth) n (statements_view c.each.found.items) c.each.tokens) _ c.each._turn c.each-test.true c.each.invariant in
    first_of (search rules, grind (arith, common_steps))

pub returns-in_err-inner-2 : goal.returns-in_err-inner-2
unfolding many_from
returns-in_err-inner-2 g c =
    let e = one_more (λ n. many_from sees_statement (statement c.args.self.now.depth) n (statements_view c.each.found.items) c.each.tokens) _ c.each._turn c.each-test.true c.each.invariant in
    first_of (search rules, grind (arith, common_steps))

pub each-preserved : goal.each-preserved
unfolding many_from
each-preserved g c =
    let e = one_more (λ n. many_from sees_statement (statement c.args.self.now.depth) n (statements_view c.each.found.items) c.each.tokens) _ c.each._turn c.each-test.true c.each.invariant in
    first_of (search rules, grind (arith, common_steps))

pub returns : goal.returns
unfolding many_from
returns g c =
    let e = no_more (λ n. many_from sees_statement (statement c.args.self.now.depth) n (statements_view c.each.found.items) c.each.tokens) _ c.each._turn c.each-test.false c.each.invariant in
    first_of (search rules, grind (arith, common_steps))
