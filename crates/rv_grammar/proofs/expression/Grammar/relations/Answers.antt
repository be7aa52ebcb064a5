use Rattle.std.proofs.Common.{rules, arith}
use Rattle.std.proofs.lemmas.Grind.{common_steps}
use Rattle.rv_tree.specs.ExpressionView.{expressions_view}
use Rattle.rv_grammar.specs.ExpressionRules.{opening, inside, relations, relations_from}
use Rattle.rv_grammar.proofs.Turns.{one_more, no_more}
use Rattle.rv_grammar.proofs.expression.Grammar.relations.Goals as goal

pub each-init : goal.each-init
unfolding relations
each-init g c = first_of (search rules, grind (arith, common_steps))

pub returns-in_err-relation : goal.returns-in_err-relation
unfolding relations_from
returns-in_err-relation g c =
    let e = one_more (λ n. relations_from (opening c.args.self.now.depth) (inside c.args.self.now.depth) c.args.operator n (expressions_view c.each.found.items) c.each.tokens) _ c.each._turn c.each-test.true c.each.invariant in
    first_of (search rules, grind (arith, common_steps))

pub returns-in_err-joined : goal.returns-in_err-joined
unfolding relations_from
returns-in_err-joined g c =
    let e = one_more (λ n. relations_from (opening c.args.self.now.depth) (inside c.args.self.now.depth) c.args.operator n (expressions_view c.each.found.items) c.each.tokens) _ c.each._turn c.each-test.true c.each.invariant in
    first_of (search rules, grind (arith, common_steps))

pub returns-then-not-branch : goal.returns-then-not-branch
unfolding relations_from
returns-then-not-branch g c =
    let e = one_more (λ n. relations_from (opening c.args.self.now.depth) (inside c.args.self.now.depth) c.args.operator n (expressions_view c.each.found.items) c.each.tokens) _ c.each._turn c.each-test.true c.each.invariant in
    first_of (search rules, grind (arith, common_steps))

pub each-preserved : goal.each-preserved
unfolding relations_from
each-preserved g c =
    let e = one_more (λ n. relations_from (opening c.args.self.now.depth) (inside c.args.self.now.depth) c.args.operator n (expressions_view c.each.found.items) c.each.tokens) _ c.each._turn c.each-test.true c.each.invariant in
    first_of (search rules, grind (arith, common_steps))

pub returns : goal.returns
unfolding relations_from
returns g c =
    let e = no_more (λ n. relations_from (opening c.args.self.now.depth) (inside c.args.self.now.depth) c.args.operator n (expressions_view c.each.found.items) c.each.tokens) _ c.each._turn c.each-test.false c.each.invariant in
    first_of (search rules, grind (arith, common_steps))
