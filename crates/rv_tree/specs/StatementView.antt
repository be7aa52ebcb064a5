-- The tree that a statement of the code stands for.
use Rattle.std.specs.Prelude.{List, map}
use Rattle.rv_tree.specs.Statements as t
use Rattle.rv_tree.specs.Expressions.{expressions_of}
use Rattle.rv_tree.specs.NameView.{identifier_view, name_view, names_view}
use Rattle.rv_tree.specs.ExpressionView.{expression_view, expressions_view, range_view}
use Rattle.rv_tree.specs.DeclarationView.{maybe, parameter_view}
use Rattle.rv_tree.specs.declared.statement.Choice.{Choice}
use Rattle.rv_tree.specs.declared.statement.Choice.TheVariants as choice
use Rattle.rv_tree.specs.declared.statement.LoopBounds.{LoopBounds}
use Rattle.rv_tree.specs.declared.statement.LoopBounds.TheVariants as bounds
use Rattle.rv_tree.specs.declared.statement.Iteration.{Iteration}
use Rattle.rv_tree.specs.declared.statement.Iteration.TheVariants as iteration
use Rattle.rv_tree.specs.declared.statement.Guard.{Guard}
use Rattle.rv_tree.specs.declared.statement.ElsifPart.{ElsifPart, fold-ElsifPart}
use Rattle.rv_tree.specs.declared.statement.CaseAlternative.{CaseAlternative, fold-CaseAlternative}
use Rattle.rv_tree.specs.declared.statement.SelectAlternative.{SelectAlternative, fold-SelectAlternative}
use Rattle.rv_tree.specs.declared.statement.Statement.{Statement, fold-Statement}
use Rattle.rv_tree.specs.declared.statement.SelectAlternative.TheOpen.{CaseAlternative-F, ElsifPart-F, SelectAlternative-F, Statement-F}

abbrev pub choice_view : Choice → t.Choice
choice_view (choice.Others at) = t.others at
choice_view (choice.Value e) = t.value (expression_view e)
choice_view (choice.Range low high) = t.between (expression_view low) (expression_view high)

abbrev pub bounds_view : LoopBounds → t.LoopBounds
bounds_view (bounds.Whole e) = t.whole_bounds (expression_view e)
bounds_view (bounds.Between low high) = t.two_bounds (expression_view low) (expression_view high)
bounds_view (bounds.Constrained mark range) = t.constrained_bounds (name_view mark) (range_view range)

abbrev pub iteration_view : Iteration → t.Iteration
iteration_view iteration.Forever = t.forever
iteration_view (iteration.While condition) = t.while_true (expression_view condition)
iteration_view (iteration.For parameter is_reverse bounds) = t.for_each (identifier_view parameter) is_reverse (bounds_view bounds)

abbrev pub guard_view : Guard → t.Guard
guard_view g = record { at = g.at; condition = expression_view g.condition }

abbrev pub case_step : CaseAlternative-F t.Selective t.Statement t.CaseAlternative t.ElsifPart → t.CaseAlternative
case_step a = record { at = a.at; choices = map choice_view a.choices.items; statements = t.statements_of a.statements.items }

abbrev pub elsif_step : ElsifPart-F t.Selective t.Statement t.CaseAlternative t.ElsifPart → t.ElsifPart
elsif_step p = record { at = p.at; condition = expression_view p.condition; statements = t.statements_of p.statements.items }

abbrev pub select_step : SelectAlternative-F t.Selective t.Statement t.CaseAlternative t.ElsifPart → t.Selective
select_step (SelectAlternative-F.Statements guard statements) = t.some_statements (maybe guard_view guard) (t.statements_of statements.items)
select_step (SelectAlternative-F.Terminate guard at) = t.terminate (maybe guard_view guard) at

abbrev pub statement_step : Statement-F t.Selective t.Statement t.CaseAlternative t.ElsifPart → t.Statement
statement_step (Statement-F.Null at) = t.null_statement at
statement_step (Statement-F.Assignment name e) = t.assignment (name_view name) (expression_view e)
statement_step (Statement-F.Call name es) = t.call_statement (name_view name) (expressions_of (expressions_view es.items))
statement_step (Statement-F.If at condition statements parts otherwise) = t.if_statement at (expression_view condition) (t.statements_of statements.items) (t.elsif_parts_of parts.items) (t.statements_of otherwise.items)
statement_step (Statement-F.Case at selector alternatives) = t.case_statement at (expression_view selector) (t.alternatives_of alternatives.items)
statement_step (Statement-F.Loop at iteration statements) = t.loop_statement at (iteration_view iteration) (t.statements_of statements.items)
statement_step (Statement-F.Exit at condition) = t.exit_statement at (maybe expression_view condition)
statement_step (Statement-F.Return at e) = t.return_statement at (maybe expression_view e)
statement_step (Statement-F.Raise at name) = t.raise_statement at (maybe name_view name)
statement_step (Statement-F.Delay at is_until time) = t.delay_statement at is_until (expression_view time)
statement_step (Statement-F.Abort at names) = t.abort_statement at (names_view names.items)
statement_step (Statement-F.Requeue at target with_abort) = t.requeue_statement at (name_view target) with_abort
statement_step (Statement-F.Accept at entry parameters statements end_name) = t.accept_statement at (identifier_view entry) (map parameter_view parameters.items) (t.statements_of statements.items) (maybe identifier_view end_name)
statement_step (Statement-F.Select at alternatives otherwise aborted) = t.select_statement at (t.selectives_of alternatives.items) (t.statements_of otherwise.items) (t.statements_of aborted.items)

abbrev pub statement_view : Statement → t.Statement
statement_view = fold-Statement t.Selective t.Statement t.CaseAlternative t.ElsifPart select_step statement_step case_step elsif_step

abbrev pub statements_view : List Statement → List t.Statement
statements_view = map statement_view

abbrev pub elsif_part_view : ElsifPart → t.ElsifPart
elsif_part_view = fold-ElsifPart t.Selective t.Statement t.CaseAlternative t.ElsifPart select_step statement_step case_step elsif_step

abbrev pub elsif_parts_view : List ElsifPart → List t.ElsifPart
elsif_parts_view = map elsif_part_view

abbrev pub alternative_view : CaseAlternative → t.CaseAlternative
alternative_view = fold-CaseAlternative t.Selective t.Statement t.CaseAlternative t.ElsifPart select_step statement_step case_step elsif_step

abbrev pub alternatives_view : List CaseAlternative → List t.CaseAlternative
alternatives_view = map alternative_view

abbrev pub selective_view : SelectAlternative → t.Selective
selective_view = fold-SelectAlternative t.Selective t.Statement t.CaseAlternative t.ElsifPart select_step statement_step case_step elsif_step

abbrev pub selectives_view : List SelectAlternative → List t.Selective
selectives_view = map selective_view
