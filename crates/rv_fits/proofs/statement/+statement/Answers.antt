use Rattle.std.proofs.Common.{rules, arith, ◌≡◌, sym, ◌∙◌}
use Rattle.rv_code.specs.declared.statement.Statement.{the_lemmas as statement_lemmas}
use Rattle.rv_code.specs.ExpressionView.{expression_view}
use Rattle.rv_code.specs.Statements as tree
use Rattle.rv_code.specs.StatementView.{statement_view, statements_view}
use Rattle.rv_fits.specs.Passing.{passes}
use Rattle.rv_fits.proofs.Parts.{for_calls}
use Rattle.rv_fits.proofs.statement.+statement.Goals as goal

pub statement_fits-returns-then-bounds_fit : goal.statement_fits-returns-then-bounds_fit
statement_fits-returns-then-bounds_fit t c =
    let v : statement_view c.args.s.now ≡ tree.for_loop c.in-For.parameter c.in-For.is_reverse c.in-For.range (expression_view c.in-For.low) (expression_view c.in-For.high) (statements_view c.in-For.statements.items) = first_of (search (rules, statement_lemmas), grind (arith, statement_lemmas)) in
    for_calls (passes c.args.test.now) (statement_view c.args.s.now) c.in-For.parameter c.in-For.is_reverse c.in-For.range (expression_view c.in-For.low) (expression_view c.in-For.high) (statements_view c.in-For.statements.items)
    c.statements_fit-then-bounds_fit.result v (sym c.bounds_fit.ensures ∙ c.if-bounds_fit.true) c.statements_fit-then-bounds_fit.ensures
