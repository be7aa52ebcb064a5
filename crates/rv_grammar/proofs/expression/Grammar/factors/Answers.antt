use Rattle.std.proofs.Common.{rules, arith}
use Rattle.std.proofs.lemmas.Grind.{common_steps}
use Rattle.rv_tree.specs.Expressions.{factor_by}
use Rattle.rv_tree.specs.ExpressionView.{factors_view}
use Rattle.rv_grammar.specs.ExpressionRules.{opening, inside, multiplying_of, linked, linked_from, factor, factors}
use Rattle.rv_grammar.proofs.Turns.{one_more, no_more}
use Rattle.rv_grammar.proofs.expression.Grammar.factors.Goals as goal

pub each-init : goal.each-init
unfolding linked
each-init g c = first_of (search rules, grind (arith, common_steps))

pub returns-in_default : goal.returns-in_default
unfolding linked_from
returns-in_default g c =
    let e = one_more (λ n. linked_from multiplying_of (factor (opening c.args.self.now.depth) (inside c.args.self.now.depth)) factor_by n (factors_view c.each.found.items) c.each.tokens) _ c.each._turn c.each-test.true c.each.invariant in
    first_of (search rules, grind (arith, common_steps))

pub returns-in_err-operand : goal.returns-in_err-operand
unfolding linked_from
returns-in_err-operand g c =
    let e = one_more (λ n. linked_from multiplying_of (factor (opening c.args.self.now.depth) (inside c.args.self.now.depth)) factor_by n (factors_view c.each.found.items) c.each.tokens) _ c.each._turn c.each-test.true c.each.invariant in
    first_of (search rules, grind (arith, common_steps))

pub each-preserved : goal.each-preserved
unfolding linked_from
each-preserved g c =
    let e = one_more (λ n. linked_from multiplying_of (factor (opening c.args.self.now.depth) (inside c.args.self.now.depth)) factor_by n (factors_view c.each.found.items) c.each.tokens) _ c.each._turn c.each-test.true c.each.invariant in
    first_of (search rules, grind (arith, common_steps))

pub returns : goal.returns
unfolding linked_from
returns g c =
    let e = no_more (λ n. linked_from multiplying_of (factor (opening c.args.self.now.depth) (inside c.args.self.now.depth)) factor_by n (factors_view c.each.found.items) c.each.tokens) _ c.each._turn c.each-test.false c.each.invariant in
    first_of (search rules, grind (arith, common_steps))
