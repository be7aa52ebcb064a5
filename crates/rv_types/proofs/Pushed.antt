-- What lists of the compiled tree stand for, with one more.
use Rattle.std.proofs.Common.{◌≡◌, ℕ, List, [], ◌∷◌, ◌++◌, map, ap, ◌∙◌, Vec, Global, Option, Some}
use Rattle.std.proofs.Math.ListN.{set}
use Rattle.std.proofs.lemmas.List.{map-append, map-set}
use Rattle.rv_code.specs.declared.body.Body.{Body}
use Rattle.rv_code.specs.BodyView.{body_view, maybe_body_view}
use Rattle.rv_code.specs.declared.expression.Operator.{Operator}
use Rattle.rv_code.specs.declared.expression.Expression.{Expression}
use Rattle.rv_code.specs.declared.expression.Link.{Link, roll-Link, fold-roll-Link}
use Rattle.rv_code.specs.Expressions as t
use Rattle.rv_code.specs.Statements as ts
use Rattle.rv_code.specs.declared.statement.Choice.{Choice}
use Rattle.rv_code.specs.declared.statement.Branch.{Branch, roll-Branch, fold-roll-Branch}
use Rattle.rv_code.specs.declared.statement.Alternative.{Alternative, roll-Alternative, fold-roll-Alternative}
use Rattle.rv_code.specs.declared.statement.Statement.{Statement}
use Rattle.rv_code.specs.StatementView.{statement_view, branch_view, alternative_view, statement_step, alternative_step, branch_step}
use Rattle.rv_code.specs.ExpressionView.{expression_view, link_view, expression_step, link_step}

pub pushed_link : (links : List Link) (op : Operator) (c : Expression) →
    map link_view (links ++ roll-Link (record { operator = op; operand = c }) ∷ [])
    ≡ map link_view links ++ record { operator = op; operand = expression_view c } ∷ []
pushed_link links op c =
    map-append link_view links _
    ∙ ap (λ a. map link_view links ++ a ∷ []) (fold-roll-Link t.Expression t.Link expression_step link_step (record { operator = op; operand = c }))

pub pushed_branch : (branches : List Branch) (c : Expression) (v : Vec Statement Global) →
    map branch_view (branches ++ roll-Branch (record { condition = c; statements = v }) ∷ [])
    ≡ map branch_view branches ++ record { condition = expression_view c; statements = ts.statements_of (map statement_view v.items) } ∷ []
pushed_branch branches c v =
    map-append branch_view branches _
    ∙ ap (λ a. map branch_view branches ++ a ∷ [])
    (fold-roll-Branch ts.Statement ts.Alternative ts.Branch statement_step alternative_step branch_step (record { condition = c; statements = v }))

pub pushed_alternative : (alternatives : List Alternative) (cs : Vec Choice Global) (v : Vec Statement Global) →
    map alternative_view (alternatives ++ roll-Alternative (record { choices = cs; statements = v }) ∷ [])
    ≡ map alternative_view alternatives ++ record { choices = cs.items; statements = ts.statements_of (map statement_view v.items) } ∷ []
pushed_alternative alternatives cs v =
    map-append alternative_view alternatives _
    ∙ ap (λ a. map alternative_view alternatives ++ a ∷ [])
    (fold-roll-Alternative ts.Statement ts.Alternative ts.Branch statement_step alternative_step branch_step (record { choices = cs; statements = v }))

-- what is put into one place of a list
pub put_task : (tasks : List (Option Body)) (index : ℕ) (b : Body) →
    map maybe_body_view (set tasks index (Some b)) ≡ set (map maybe_body_view tasks) index (Some (body_view b))
put_task tasks index b = map-set maybe_body_view tasks index (Some b)
