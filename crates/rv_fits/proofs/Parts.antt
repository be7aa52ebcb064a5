-- The parts of links and branches.
use Rattle.std.proofs.Common.{rules, arith, ◌≡◌, ℕ, Bool, true, ap, sym, ◌∙◌}
use Rattle.std.specs.Prelude.{◌&&◌}
use Rattle.std.proofs.lemmas.List.Folds.{list_all-map}
use Rattle.rv_code.specs.declared.expression.Callee.{Callee}
use Rattle.rv_code.specs.declared.expression.Expression.{the_lemmas as expression_lemmas}
use Rattle.rv_code.specs.declared.expression.Link.{Link}
use Rattle.rv_code.specs.declared.statement.Branch.{Branch}
use Rattle.rv_code.specs.declared.statement.Statement.{the_lemmas as statement_lemmas}
use Rattle.rv_code.specs.Expressions.{Expression}
use Rattle.rv_code.specs.ExpressionView.{expression_view, link_view}
use Rattle.rv_shape.specs.declared.kind.Range.{Range}
use Rattle.rv_code.specs.Statements.{Statement, Statements, for_loop}
use Rattle.rv_code.specs.StatementView.{statements_view, branch_view}
use Rattle.rv_fits.specs.Calls.{expression_calls, statement_calls, statements_call}

link_operand : (x : Link) → (link_view x).operand ≡ expression_view x.operand
link_operand x = first_of (search (rules, expression_lemmas), grind (arith, expression_lemmas))

branch_condition : (x : Branch) → (branch_view x).condition ≡ expression_view x.condition
branch_condition x = first_of (search (rules, statement_lemmas), grind (arith, statement_lemmas))

branch_statements : (x : Branch) → (branch_view x).statements ≡ statements_view x.statements.items
branch_statements x = first_of (search (rules, statement_lemmas), grind (arith, statement_lemmas))

pub link_calls : (such : Callee → Bool) (x : Link) (r : Bool) → r ≡ expression_calls such (expression_view x.operand) → r ≡ expression_calls such (link_view x).operand
link_calls such x r e = e ∙ ap (λ (k : Expression). expression_calls such k) (sym (link_operand x))

pub branch_calls : (such : Callee → Bool) (x : Branch) (r : Bool) → r ≡ (expression_calls such (expression_view x.condition) && statements_call such (statements_view x.statements.items))
    → r ≡ (expression_calls such (branch_view x).condition && statements_call such (branch_view x).statements)
branch_calls such x r e =
    e ∙ (λ i. expression_calls such (sym (branch_condition x) i) && statements_call such (sym (branch_statements x) i))

pub for_calls : (such : Callee → Bool) (x : Statement) (slot : ℕ) (is_reverse : Bool) (range : Range) (low high : Expression) (ss : Statements) (r : Bool) → x ≡ for_loop slot is_reverse range low high ss
    → (expression_calls such low && expression_calls such high) ≡ true → r ≡ statements_call such ss → r ≡ statement_calls such x
for_calls such x slot is_reverse range low high ss r is bounds e =
    e ∙ (sym (ap (λ (b : Bool). b && statements_call such ss) bounds) ∙ ap (λ (s : Statement). statement_calls such s) (sym is))

-- a test of all in a list that is mapped
pub ruleset mapped = (list_all-map)
