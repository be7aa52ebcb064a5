-- The parts of links, branches and loops.
use Rattle.std.proofs.Common.{rules, arith, ◌≡◌, Bool, ap, sym, ◌∙◌}
use Rattle.std.specs.Prelude.{◌&&◌, List}
use Rattle.std.proofs.lemmas.List.Folds.{list_all-map}
use Rattle.rv_shape.specs.Shape.{Shape}
use Rattle.rv_code.specs.declared.expression.Expression.{the_lemmas as expression_lemmas}
use Rattle.rv_code.specs.declared.expression.Link.{Link}
use Rattle.rv_code.specs.declared.statement.Branch.{Branch}
use Rattle.rv_code.specs.declared.statement.Statement.{the_lemmas as statement_lemmas}
use Rattle.rv_code.specs.Expressions.{Expression}
use Rattle.rv_code.specs.ExpressionView.{expression_view, link_view}
use Rattle.rv_code.specs.StatementView.{statements_view, branch_view}
use Rattle.rv_ranged.specs.Ranged.{Stand, expression_ranged, statements_ranged}

link_operand : (x : Link) → (link_view x).operand ≡ expression_view x.operand
link_operand x = first_of (search (rules, expression_lemmas), grind (arith, expression_lemmas))

branch_condition : (x : Branch) → (branch_view x).condition ≡ expression_view x.condition
branch_condition x = first_of (search (rules, statement_lemmas), grind (arith, statement_lemmas))

branch_statements : (x : Branch) → (branch_view x).statements ≡ statements_view x.statements.items
branch_statements x = first_of (search (rules, statement_lemmas), grind (arith, statement_lemmas))

pub link_ranged : (shapes : List Shape) (s : Stand) (x : Link) (r : Bool) → r ≡ expression_ranged shapes s (expression_view x.operand) → r ≡ expression_ranged shapes s (link_view x).operand
link_ranged shapes s x r e = e ∙ ap (λ (k : Expression). expression_ranged shapes s k) (sym (link_operand x))

pub branch_ranged : (shapes : List Shape) (s : Stand) (x : Branch) (r : Bool)
    → r ≡ (expression_ranged shapes s (expression_view x.condition) && statements_ranged shapes s (statements_view x.statements.items))
    → r ≡ (expression_ranged shapes s (branch_view x).condition && statements_ranged shapes s (branch_view x).statements)
branch_ranged shapes s x r e =
    e ∙ (λ i. expression_ranged shapes s (sym (branch_condition x) i) && statements_ranged shapes s (sym (branch_statements x) i))

-- a test of all in a list that is mapped
pub ruleset mapped = (list_all-map)
