-- A printed statement is that statement.
use Rattle.std.proofs.Common.{ℕ, Bool, true, false, Option, Some, None, refl}
use Rattle.rv_lex.specs.declared.kind.Kind.TheVariants as k
use Rattle.rv_tree.specs.Names.{Identifier}
use Rattle.rv_tree.specs.Expressions.{Expression, Expressions, no_expressions, and_expression}
use Rattle.rv_tree.specs.NameGrammar.{IsIdentifier, IsName}
use Rattle.rv_tree.specs.NamePrint.{identifier_onto, name_onto}
use Rattle.rv_tree.specs.ExpressionGrammar.{IsExpression}
use Rattle.rv_tree.specs.ExpressionPrint.{expression_onto, arguments_onto}
use Rattle.rv_tree.specs.Statements.{Choice, others, value, between, LoopBounds, whole_bounds, two_bounds, constrained_bounds, Iteration, forever, while_true, for_each, Guard, Statement, null_statement, assignment, call_statement, if_statement, case_statement, loop_statement, exit_statement, return_statement, raise_statement, delay_statement, abort_statement, requeue_statement, accept_statement, select_statement, Statements, no_statements, and_statement, ElsifParts, no_elsif_parts, and_elsif_part, Alternatives, no_alternatives, and_alternative, Selective, some_statements, terminate, Selectives, no_selectives, and_selective}
use Rattle.rv_tree.specs.StatementGrammar.{IsChoice, AreBounds, IsIteration, IsCondition, IsGuard, MaybeArguments, IsWithAbort, IsStatement, AreStatements, MoreStatements, AreElsifParts, IsElse, AreAlternatives, IsAcceptBody, IsSelective, AreSelectives, MoreSelectives, IsThenAbort}
use Rattle.rv_tree.specs.StatementPrint.{choice_onto, bounds_onto, iteration_onto, condition_onto, guard_onto, with_abort_onto, statement_onto, statements_onto, elsif_parts_onto, else_onto, alternatives_onto, accept_body_onto, selective_onto, selectives_onto, more_selectives_onto, then_abort_onto}
use Rattle.rv_tree.proofs.Phrased.{Prints, is_prints, is_at_prints, seq_prints, nothing_prints, never_prints, flag_prints, maybe_prints, after_prints, listed_prints}
use Rattle.rv_tree.proofs.PrintsName.{identifier_prints, name_prints, names_print}
use Rattle.rv_tree.proofs.PrintsExpression.{expression_prints, range_prints, arguments_print}
use Rattle.rv_tree.proofs.PrintsDeclaration.{initial_prints, parameters_print}

choice_prints : (c : Choice) → Prints (IsChoice c) (choice_onto c)
choice_prints (others at) = is_at_prints k.Others at refl
choice_prints (value e) = expression_prints e
choice_prints (between low high) = seq_prints (expression_prints low) (seq_prints (is_prints k.DoubleDot refl) (expression_prints high))

bounds_print : (b : LoopBounds) → Prints (AreBounds b) (bounds_onto b)
bounds_print (whole_bounds e) = expression_prints e
bounds_print (two_bounds low high) = seq_prints (expression_prints low) (seq_prints (is_prints k.DoubleDot refl) (expression_prints high))
bounds_print (constrained_bounds mark range) = seq_prints (name_prints mark) (range_prints range)

iteration_prints : (at : ℕ) (i : Iteration) → Prints (IsIteration at i) (iteration_onto i)
iteration_prints at forever = is_at_prints k.Loop at refl
iteration_prints at (while_true condition) = seq_prints (is_at_prints k.While at refl) (seq_prints (expression_prints condition) (is_prints k.Loop refl))
iteration_prints at (for_each parameter is_reverse bounds) = seq_prints (is_at_prints k.For at refl) (seq_prints (identifier_prints parameter) (seq_prints (is_prints k.In refl) (seq_prints (flag_prints k.Reverse is_reverse refl) (seq_prints (bounds_print bounds) (is_prints k.Loop refl)))))

condition_prints : (e : Expression) → Prints (IsCondition e) (condition_onto e)
condition_prints e = after_prints k.When IsExpression expression_onto refl expression_prints e

guard_prints : (g : Guard) → Prints (IsGuard g) (guard_onto g)
guard_prints g = seq_prints (is_at_prints k.When g.at refl) (seq_prints (expression_prints g.condition) (is_prints k.Arrow refl))

maybe_arguments_print : (es : Expressions) → Prints (MaybeArguments es) (arguments_onto es)
maybe_arguments_print no_expressions = nothing_prints
maybe_arguments_print (and_expression e es) = arguments_print (and_expression e es)

with_abort_prints : (b : Bool) → Prints (IsWithAbort b) (with_abort_onto b)
with_abort_prints true = seq_prints (is_prints k.With refl) (is_prints k.Abort refl)
with_abort_prints false = nothing_prints

mutual
  pub statement_prints : (s : Statement) → Prints (IsStatement s) (statement_onto s)
  statement_prints (null_statement at) = seq_prints (is_at_prints k.Null at refl) (is_prints k.Semicolon refl)
  statement_prints (assignment name e) = seq_prints (name_prints name) (seq_prints (initial_prints e) (is_prints k.Semicolon refl))
  statement_prints (call_statement name es) = seq_prints (name_prints name) (seq_prints (maybe_arguments_print es) (is_prints k.Semicolon refl))
  statement_prints (if_statement at condition ss parts otherwise) = seq_prints (is_at_prints k.If at refl) (seq_prints (expression_prints condition) (seq_prints (is_prints k.Then refl) (seq_prints (statements_print ss) (seq_prints (elsif_parts_print parts) (seq_prints (else_prints otherwise) (seq_prints (is_prints k.End refl) (seq_prints (is_prints k.If refl) (is_prints k.Semicolon refl))))))))
  statement_prints (case_statement at selector alternatives) = seq_prints (is_at_prints k.Case at refl) (seq_prints (expression_prints selector) (seq_prints (is_prints k.Is refl) (seq_prints (alternatives_print alternatives) (seq_prints (is_prints k.End refl) (seq_prints (is_prints k.Case refl) (is_prints k.Semicolon refl))))))
  statement_prints (loop_statement at iteration ss) = seq_prints (iteration_prints at iteration) (seq_prints (statements_print ss) (seq_prints (is_prints k.End refl) (seq_prints (is_prints k.Loop refl) (is_prints k.Semicolon refl))))
  statement_prints (exit_statement at condition) = seq_prints (is_at_prints k.Exit at refl) (seq_prints (maybe_prints IsCondition condition_onto condition_prints condition) (is_prints k.Semicolon refl))
  statement_prints (return_statement at e) = seq_prints (is_at_prints k.Return at refl) (seq_prints (maybe_prints IsExpression expression_onto expression_prints e) (is_prints k.Semicolon refl))
  statement_prints (raise_statement at name) = seq_prints (is_at_prints k.Raise at refl) (seq_prints (maybe_prints IsName name_onto name_prints name) (is_prints k.Semicolon refl))
  statement_prints (delay_statement at is_until e) = seq_prints (is_at_prints k.Delay at refl) (seq_prints (flag_prints k.Until is_until refl) (seq_prints (expression_prints e) (is_prints k.Semicolon refl)))
  statement_prints (abort_statement at names) = seq_prints (is_at_prints k.Abort at refl) (seq_prints (names_print names) (is_prints k.Semicolon refl))
  statement_prints (requeue_statement at target with_abort) = seq_prints (is_at_prints k.Requeue at refl) (seq_prints (name_prints target) (seq_prints (with_abort_prints with_abort) (is_prints k.Semicolon refl)))
  statement_prints (accept_statement at entry parameters ss end_name) = seq_prints (is_at_prints k.Accept at refl) (seq_prints (identifier_prints entry) (seq_prints (parameters_print parameters) (seq_prints (accept_body_prints ss end_name) (is_prints k.Semicolon refl))))
  statement_prints (select_statement at alternatives otherwise aborted) = seq_prints (is_at_prints k.Select at refl) (seq_prints (selectives_print alternatives) (seq_prints (else_prints otherwise) (seq_prints (then_abort_prints aborted) (seq_prints (is_prints k.End refl) (seq_prints (is_prints k.Select refl) (is_prints k.Semicolon refl))))))

  pub statements_print : (ss : Statements) → Prints (AreStatements ss) (statements_onto ss)
  statements_print no_statements = never_prints (statements_onto no_statements)
  statements_print (and_statement s ss) = seq_prints (statement_prints s) (more_statements_print ss)

  more_statements_print : (ss : Statements) → Prints (MoreStatements ss) (statements_onto ss)
  more_statements_print no_statements = nothing_prints
  more_statements_print (and_statement s ss) = seq_prints (statement_prints s) (more_statements_print ss)

  elsif_parts_print : (ps : ElsifParts) → Prints (AreElsifParts ps) (elsif_parts_onto ps)
  elsif_parts_print no_elsif_parts = nothing_prints
  elsif_parts_print (and_elsif_part at condition ss parts) = seq_prints (is_at_prints k.Elsif at refl) (seq_prints (expression_prints condition) (seq_prints (is_prints k.Then refl) (seq_prints (statements_print ss) (elsif_parts_print parts))))

  else_prints : (ss : Statements) → Prints (IsElse ss) (else_onto ss)
  else_prints no_statements = nothing_prints
  else_prints (and_statement s ss) = seq_prints (is_prints k.Else refl) (seq_prints (statement_prints s) (more_statements_print ss))

  alternatives_print : (xs : Alternatives) → Prints (AreAlternatives xs) (alternatives_onto xs)
  alternatives_print no_alternatives = nothing_prints
  alternatives_print (and_alternative at choices ss more) = seq_prints (is_at_prints k.When at refl) (seq_prints (listed_prints k.Bar IsChoice choice_onto refl choice_prints choices) (seq_prints (is_prints k.Arrow refl) (seq_prints (statements_print ss) (alternatives_print more))))

  accept_body_prints : (ss : Statements) (end_name : Option Identifier) → Prints (IsAcceptBody ss end_name) (accept_body_onto ss end_name)
  accept_body_prints no_statements None = nothing_prints
  accept_body_prints no_statements (Some name) = never_prints (accept_body_onto no_statements (Some name))
  accept_body_prints (and_statement s ss) end_name = seq_prints (is_prints k.Do refl) (seq_prints (statement_prints s) (seq_prints (more_statements_print ss) (seq_prints (is_prints k.End refl) (maybe_prints IsIdentifier identifier_onto identifier_prints end_name))))

  selective_prints : (a : Selective) → Prints (IsSelective a) (selective_onto a)
  selective_prints (some_statements guard ss) = seq_prints (maybe_prints IsGuard guard_onto guard_prints guard) (statements_print ss)
  selective_prints (terminate guard at) = seq_prints (maybe_prints IsGuard guard_onto guard_prints guard) (seq_prints (is_at_prints k.Terminate at refl) (is_prints k.Semicolon refl))

  selectives_print : (xs : Selectives) → Prints (AreSelectives xs) (selectives_onto xs)
  selectives_print no_selectives = never_prints (selectives_onto no_selectives)
  selectives_print (and_selective a more) = seq_prints (selective_prints a) (more_selectives_print more)

  more_selectives_print : (xs : Selectives) → Prints (MoreSelectives xs) (more_selectives_onto xs)
  more_selectives_print no_selectives = nothing_prints
  more_selectives_print (and_selective a more) = seq_prints (is_prints k.Or refl) (seq_prints (selective_prints a) (more_selectives_print more))

  then_abort_prints : (ss : Statements) → Prints (IsThenAbort ss) (then_abort_onto ss)
  then_abort_prints no_statements = nothing_prints
  then_abort_prints (and_statement s ss) = seq_prints (is_prints k.Then refl) (seq_prints (is_prints k.Abort refl) (seq_prints (statement_prints s) (more_statements_print ss)))
