-- What the nodes of the table are, as parts of expressions, statements and bodies (own).
use Rattle.std.specs.Prelude.{List}
use Rattle.rv_code.specs.Expressions as e
use Rattle.rv_code.specs.Expressions.{Expression}
use Rattle.rv_code.specs.Statements as s
use Rattle.rv_code.specs.Statements.{Statement}
use Rattle.rv_flat.specs.Trees.{Tree, tree_at, as_expression, as_expressions, as_links, as_statements, as_branches, as_alternatives, as_targets}
use Rattle.rv_machine.specs.declared.nodes.ExpressionNode.{ExpressionNode}
use Rattle.rv_machine.specs.declared.nodes.ExpressionNode.TheVariants as expression
use Rattle.rv_machine.specs.declared.nodes.StatementNode.{StatementNode}
use Rattle.rv_machine.specs.declared.nodes.StatementNode.TheVariants as statement

-- the expression whose parts have these numbers
abbrev pub expression_by : List Tree → ExpressionNode → Expression
expression_by ts (expression.Value n) = e.literal n
expression_by ts (expression.Variable slot) = e.variable slot
expression_by ts (expression.Component index) = e.component index
expression_by ts (expression.Prefixed op a) = e.prefixed op (as_expression (tree_at ts a))
expression_by ts (expression.Chain a ls) = e.chain (as_expression (tree_at ts a)) (as_links (tree_at ts ls))
expression_by ts (expression.Within range a) = e.within range (as_expression (tree_at ts a))
expression_by ts (expression.Call callee es) = e.call callee (as_expressions (tree_at ts es))

-- the statement whose parts have these numbers
abbrev pub statement_by : List Tree → StatementNode → Statement
statement_by ts statement.Null = s.null_statement
statement_by ts (statement.Assign target a) = s.assign target (as_expression (tree_at ts a))
statement_by ts (statement.If bs ss) = s.choice (as_branches (tree_at ts bs)) (as_statements (tree_at ts ss))
statement_by ts (statement.Case a more) = s.selection (as_expression (tree_at ts a)) (as_alternatives (tree_at ts more))
statement_by ts (statement.While a ss) = s.while_loop (as_expression (tree_at ts a)) (as_statements (tree_at ts ss))
statement_by ts (statement.For scheme low high ss) =
    s.for_loop scheme.parameter scheme.is_reverse scheme.range (as_expression (tree_at ts low)) (as_expression (tree_at ts high)) (as_statements (tree_at ts ss))
statement_by ts (statement.ExitWhen a) = s.exit_when (as_expression (tree_at ts a))
statement_by ts statement.Return = s.returns
statement_by ts (statement.ReturnValue a) = s.returns_value (as_expression (tree_at ts a))
statement_by ts (statement.Raise exception) = s.raises exception
statement_by ts statement.Reraise = s.reraises
statement_by ts (statement.Call callee es targets) = s.calls callee (as_expressions (tree_at ts es)) (as_targets (tree_at ts targets))
