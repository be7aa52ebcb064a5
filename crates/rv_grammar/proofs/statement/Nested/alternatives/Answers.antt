use Rattle.std.proofs.Common.{rules, arith}
use Rattle.std.proofs.lemmas.Grind.{common_steps}
use Rattle.rv_tree.specs.StatementView.{alternatives_view}
use Rattle.rv_lex.specs.declared.kind.Kind.TheVariants as k
use Rattle.rv_grammar.specs.Reading.{many_from, many, more_of, sees}
use Rattle.rv_grammar.specs.StatementRules.{statement, alternative, alternatives}
use Rattle.rv_grammar.proofs.Turns.{one_more, no_more}
use Rattle.rv_grammar.proofs.statement.Nested.alternatives.Goals as goal

pub each-init : goal.each-init
unfolding alternatives many more_of
each-init g c = first_of (search rules, grind (arith, common_steps))

pub returns-then-not-sees : goal.returns-then-not-sees
unfolding many_from
returns-then-not-sees g c =
    let e = one_more (λ n. many_from (sees k.When) (alternative (statement c.args.self.now.depth)) n (alternatives_view c.each.found.items) c.each.tokens) _ c.each._turn c.each-test.true c.each.invariant in
    first_of (search rules, grind (arith, common_steps))

pub returns-in_err-alternative : goal.returns-in_err-alternative
unfolding many_from
returns-in_err-alternative g c =
    let e = one_more (λ n. many_from (sees k.When) (alternative (statement c.args.self.now.depth)) n (alternatives_view c.each.found.items) c.each.tokens) _ c.each._turn c.each-test.true c.each.invariant in
    first_of (search rules, grind (arith, common_steps))

pub each-preserved : goal.each-preserved
unfolding many_from
each-preserved g c =
    let e = one_more (λ n. many_from (sees k.When) (alternative (statement c.args.self.now.depth)) n (alternatives_view c.each.found.items) c.each.tokens) _ c.each._turn c.each-test.true c.each.invariant in
    first_of (search rules, grind (arith, common_steps))

pub returns : goal.returns
unfolding many_from
returns g c =
    let e = no_more (λ n. many_from (sees k.When) (alternative (statement c.args.self.now.depth)) n (alternatives_view c.each.found.items) c.each.tokens) _ c.each._turn c.each-test.false c.each.invariant in
    first_of (search rules, grind (arith, common_steps))
