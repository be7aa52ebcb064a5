-- The tree that a statement of the code stands for.
use Rattle.std.specs.Prelude.{List, map}
use Rattle.rv_code.specs.Statements as t
use Rattle.rv_code.specs.ExpressionView.{expression_view, expressions_view}
use Rattle.rv_code.specs.declared.statement.Branch.{Branch, fold-Branch}
use Rattle.rv_code.specs.declared.statement.Alternative.{Alternative, fold-Alternative}
use Rattle.rv_code.specs.declared.statement.Statement.{Statement, fold-Statement}
use Rattle.rv_code.specs.declared.statement.Statement.TheOpen.{Alternative-F, Branch-F, Statement-F}

abbrev pub alternative_step : Alternative-F t.Statement t.Alternative t.Branch → t.Alternative
alternative_step a = record { choices = a.choices.items; statements = t.statements_of a.statements.items }

abbrev pub branch_step : Branch-F t.Statement t.Alternative t.Branch → t.Branch
branch_step b = record { condition = expression_view b.condition; statements = t.statements_of b.statements.items }

abbrev pub statement_step : Statement-F t.Statement t.Alternative t.Branch → t.Statement
statement_step Statement-F.Null = t.null_statement
statement_step (Statement-F.Assign target e) = t.assign target (expression_view e)
statement_step (Statement-F.If bs otherwise) = t.choice (t.branches_of bs.items) (t.statements_of otherwise.items)
statement_step (Statement-F.Case e more) = t.selection (expression_view e) (t.alternatives_of more.items)
statement_step (Statement-F.While e ss) = t.while_loop (expression_view e) (t.statements_of ss.items)
statement_step (Statement-F.For parameter is_reverse range low high ss) = t.for_loop parameter is_reverse range (expression_view low) (expression_view high) (t.statements_of ss.items)
statement_step (Statement-F.ExitWhen e) = t.exit_when (expression_view e)
statement_step Statement-F.Return = t.returns
statement_step (Statement-F.ReturnValue e) = t.returns_value (expression_view e)
statement_step (Statement-F.Raise exception) = t.raises exception
statement_step Statement-F.Reraise = t.reraises
statement_step (Statement-F.Call callee es targets) = t.calls callee (expressions_view es.items) targets.items

abbrev pub statement_view : Statement → t.Statement
statement_view = fold-Statement t.Statement t.Alternative t.Branch statement_step alternative_step branch_step

abbrev pub statements_view : List Statement → t.Statements
statements_view ss = t.statements_of (map statement_view ss)

abbrev pub branch_view : Branch → t.Branch
branch_view = fold-Branch t.Statement t.Alternative t.Branch statement_step alternative_step branch_step

abbrev pub branches_view : List Branch → t.Branches
branches_view bs = t.branches_of (map branch_view bs)

abbrev pub alternative_view : Alternative → t.Alternative
alternative_view = fold-Alternative t.Statement t.Alternative t.Branch statement_step alternative_step branch_step

abbrev pub alternatives_view : List Alternative → t.Alternatives
alternatives_view more = t.alternatives_of (map alternative_view more)
