-- Calls that are added one after another.
use Rattle.std.proofs.Common.{rules, arith, ◌≡◌, List, [], ◌∷◌, ◌++◌, append_assoc, ap, sym, ◌∙◌}
use Rattle.std.proofs.lemmas.List.{append-nil}
use Rattle.rv_code.specs.declared.expression.Expression.{the_lemmas as expression_lemmas}
use Rattle.rv_code.specs.declared.expression.Link.{Link}
use Rattle.rv_code.specs.declared.statement.Branch.{Branch}
use Rattle.rv_code.specs.declared.statement.Statement.{the_lemmas as statement_lemmas}
use Rattle.rv_code.specs.Expressions.{Expression}
use Rattle.rv_code.specs.ExpressionView.{expression_view, link_view}
use Rattle.rv_code.specs.StatementView.{statements_view, branch_view}
use Rattle.rv_never.specs.Written.{of_expression, of_statements}
use Rattle.rv_never.specs.declared.calls.Called.{Called}
use Rattle.rv_never.specs.declared.calls.TaskCalls.{TaskCalls}

pub nothing : (xs : List Called) → xs ++ [] ≡ xs
nothing xs = append-nil xs

pub both : (xs ys zs : List Called) → (xs ++ ys) ++ zs ≡ xs ++ (ys ++ zs)
both xs ys zs = append_assoc xs ys zs

pub ruleset joined = (nothing, both)

pub link_operand : (x : Link) → (link_view x).operand ≡ expression_view x.operand
link_operand x = first_of (search (rules, expression_lemmas), grind (arith, expression_lemmas))

pub branch_condition : (x : Branch) → (branch_view x).condition ≡ expression_view x.condition
branch_condition x = first_of (search (rules, statement_lemmas), grind (arith, statement_lemmas))

pub branch_statements : (x : Branch) → (branch_view x).statements ≡ statements_view x.statements.items
branch_statements x = first_of (search (rules, statement_lemmas), grind (arith, statement_lemmas))

pub link_calls : (x : Link) (xs ys : List Called) → ys ≡ xs ++ of_expression (expression_view x.operand) → ys ≡ xs ++ of_expression (link_view x).operand
link_calls x xs ys e = e ∙ ap (λ (k : Expression). xs ++ of_expression k) (sym (link_operand x))

pub branch_calls : (x : Branch) (xs ys zs : List Called) → ys ≡ xs ++ of_expression (expression_view x.condition) → zs ≡ ys ++ of_statements (statements_view x.statements.items)
    → zs ≡ xs ++ (of_expression (branch_view x).condition ++ of_statements (branch_view x).statements)
branch_calls x xs ys zs e f =
    f ∙ (ap (λ (k : List Called). k ++ of_statements (statements_view x.statements.items)) e
    ∙ (both xs (of_expression (expression_view x.condition)) (of_statements (statements_view x.statements.items))
    ∙ (λ i. xs ++ (of_expression (sym (branch_condition x) i) ++ of_statements (sym (branch_statements x) i)))))

-- tasks, one more behind others

pub no_task : (tasks : List TaskCalls) → tasks ++ [] ≡ tasks
no_task tasks = append-nil tasks

pub task_more : (tasks others : List TaskCalls) (task : TaskCalls) → (tasks ++ task ∷ []) ++ others ≡ tasks ++ task ∷ others
task_more tasks others task = append_assoc tasks (task ∷ []) others

pub ruleset tasks_joined = (no_task, task_more)
