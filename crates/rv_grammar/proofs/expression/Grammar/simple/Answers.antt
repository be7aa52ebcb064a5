use Rattle.std.proofs.Common.{rules, arith}
use Rattle.std.proofs.lemmas.List.{length-map}
use Rattle.std.proofs.lemmas.Bool.Decides.{nat_tests}
use Rattle.rv_tree.specs.declared.expression.Expression.{the_lemmas}
use Rattle.rv_tree.specs.ExpressionView.{expression_view, terms_view}
use Rattle.rv_grammar.specs.ExpressionRules.{opening, inside, simple}
use Rattle.rv_grammar.proofs.Depths.{sum_is}
use Rattle.rv_grammar.proofs.expression.Grammar.simple.Goals as goal

pub returns : goal.returns
unfolding simple
returns g c =
    let p = sum_is (opening c.args.self.now.depth) (inside c.args.self.now.depth) (expression_view c.in_ok-first.first) (terms_view c.in_ok-more.more.items) (λ e. grind (arith, nat_tests, length-map)) in
    rw (c.in_ok-first.ensures, c.in_ok-more.ensures, p, c.in_ok-new.ensures.ok, c.take-2.ensures, c.new-held.ensures) (first_of (search rules, search (rules, the_lemmas), grind (arith, the_lemmas)))
