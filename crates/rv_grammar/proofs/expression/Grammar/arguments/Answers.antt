use Rattle.std.proofs.Common.{rules, arith}
use Rattle.std.proofs.lemmas.Grind.{common_steps}
use Rattle.rv_tree.specs.ExpressionView.{expressions_view}
use Rattle.rv_grammar.specs.ExpressionRules.{opening, inside, arguments, arguments_from}
use Rattle.rv_grammar.proofs.Turns.{one_more, no_more}
use Rattle.rv_grammar.proofs.expression.Grammar.arguments.Goals as goal

pub returns-in_err-opening : goal.returns-in_err-opening
unfolding arguments
returns-in_err-opening g c = first_of (search rules, grind (arith, common_steps))

pub returns-in_err-inside : goal.returns-in_err-inside
unfolding arguments
returns-in_err-inside g c = first_of (search rules, grind (arith, common_steps))

pub each-init : goal.each-init
unfolding arguments
each-init g c = first_of (search rules, grind (arith, common_steps))

pub returns-in_err-expect : goal.returns-in_err-expect
unfolding arguments_from
returns-in_err-expect g c =
    let e = one_more (λ n. arguments_from (opening c.args.self.now.depth) (inside c.args.self.now.depth) n (expressions_view c.each.found.items) c.each.tokens) _ c.each._turn c.each-test.true c.each.invariant in
    first_of (search rules, grind (arith, common_steps))

pub returns-then-not-eat : goal.returns-then-not-eat
unfolding arguments_from
returns-then-not-eat g c =
    let e = one_more (λ n. arguments_from (opening c.args.self.now.depth) (inside c.args.self.now.depth) n (expressions_view c.each.found.items) c.each.tokens) _ c.each._turn c.each-test.true c.each.invariant in
    first_of (search rules, grind (arith, common_steps))

pub returns-in_err-inside-2 : goal.returns-in_err-inside-2
unfolding arguments_from
returns-in_err-inside-2 g c =
    let e = one_more (λ n. arguments_from (opening c.args.self.now.depth) (inside c.args.self.now.depth) n (expressions_view c.each.found.items) c.each.tokens) _ c.each._turn c.each-test.true c.each.invariant in
    first_of (search rules, grind (arith, common_steps))

pub each-preserved : goal.each-preserved
unfolding arguments_from
each-preserved g c =
    let e = one_more (λ n. arguments_from (opening c.args.self.now.depth) (inside c.args.self.now.depth) n (expressions_view c.each.found.items) c.each.tokens) _ c.each._turn c.each-test.true c.each.invariant in
    first_of (search rules, grind (arith, common_steps))

pub returns : goal.returns
unfolding arguments_from
returns g c =
    let e = no_more (λ n. arguments_from (opening c.args.self.now.depth) (inside c.args.self.now.depth) n (expressions_view c.each.found.items) c.each.tokens) _ c.each._turn c.each-test.false c.each.invariant in
    first_of (search rules, grind (arith, common_steps))
