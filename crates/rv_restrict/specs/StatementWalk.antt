-- The violations of statements, their own and those of their parts (ISO/IEC 8652:2012, D.7).
use Rattle.std.specs.Prelude.{ℕ, Bool, true, false}
use Rattle.rv_tree.specs.Statements.{Choice, others, value, between, LoopBounds, whole_bounds, two_bounds, constrained_bounds, Iteration, forever, while_true, for_each, Guard, Statement, null_statement, assignment, call_statement, if_statement, case_statement, loop_statement, exit_statement, return_statement, raise_statement, delay_statement, abort_statement, requeue_statement, accept_statement, select_statement, Statements, no_statements, and_statement, ElsifParts, no_elsif_parts, and_elsif_part, Alternatives, no_alternatives, and_alternative, Selective, some_statements, terminate, Selectives, no_selectives, and_selective}
use Rattle.rv_restrict.specs.declared.violation.Restriction.TheVariants.{NoAbortStatements, NoRequeueStatements, NoSelectStatements, NoRelativeDelay}
use Rattle.rv_restrict.specs.Found.{Note, ◌▷◌, nothing, broken, maybe_noted, each_noted}
use Rattle.rv_restrict.specs.ExpressionWalk.{expression_noted, expressions_noted, range_noted}

abbrev pub choice_noted : {A : Type 0} → Note A → Choice → A → A
choice_noted note (others at) = nothing
choice_noted note (value e) = expression_noted note e
choice_noted note (between low high) = expression_noted note low ▷ expression_noted note high

abbrev pub bounds_noted : {A : Type 0} → Note A → LoopBounds → A → A
bounds_noted note (whole_bounds e) = expression_noted note e
bounds_noted note (two_bounds low high) = expression_noted note low ▷ expression_noted note high
bounds_noted note (constrained_bounds mark range) = range_noted note range

abbrev pub iteration_noted : {A : Type 0} → Note A → Iteration → A → A
iteration_noted note forever = nothing
iteration_noted note (while_true condition) = expression_noted note condition
iteration_noted note (for_each parameter is_reverse bounds) = bounds_noted note bounds

abbrev pub guard_noted : {A : Type 0} → Note A → Guard → A → A
guard_noted note g = expression_noted note g.condition

-- `delay` without `until`, at the statement
abbrev pub delay_noted : {A : Type 0} → Note A → ℕ → Bool → A → A
delay_noted note at true = nothing
delay_noted note at false = broken note NoRelativeDelay at

abbrev mutual
  pub statement_noted : {A : Type 0} → Note A → Statement → A → A
  statement_noted note (null_statement at) = nothing
  statement_noted note (assignment n e) = expression_noted note e
  statement_noted note (call_statement n es) = expressions_noted note es
  statement_noted note (if_statement at condition ss parts otherwise) =
      expression_noted note condition ▷ statements_noted note ss ▷ elsif_parts_noted note parts ▷ statements_noted note otherwise
  statement_noted note (case_statement at selector alternatives) =
      expression_noted note selector ▷ alternatives_noted note alternatives
  statement_noted note (loop_statement at iteration ss) = iteration_noted note iteration ▷ statements_noted note ss
  statement_noted note (exit_statement at condition) = maybe_noted (expression_noted note) condition
  statement_noted note (return_statement at e) = maybe_noted (expression_noted note) e
  statement_noted note (raise_statement at n) = nothing
  statement_noted note (delay_statement at is_until e) = delay_noted note at is_until ▷ expression_noted note e
  statement_noted note (abort_statement at names) = broken note NoAbortStatements at
  statement_noted note (requeue_statement at target with_abort) = broken note NoRequeueStatements at
  statement_noted note (accept_statement at entry parameters ss end_name) = statements_noted note ss
  statement_noted note (select_statement at alternatives otherwise aborted) =
      broken note NoSelectStatements at ▷ selectives_noted note alternatives ▷ statements_noted note otherwise ▷ statements_noted note aborted

  pub statements_noted : {A : Type 0} → Note A → Statements → A → A
  statements_noted note no_statements = nothing
  statements_noted note (and_statement s ss) = statement_noted note s ▷ statements_noted note ss

  pub elsif_parts_noted : {A : Type 0} → Note A → ElsifParts → A → A
  elsif_parts_noted note no_elsif_parts = nothing
  elsif_parts_noted note (and_elsif_part at condition ss parts) =
      expression_noted note condition ▷ statements_noted note ss ▷ elsif_parts_noted note parts

  pub alternatives_noted : {A : Type 0} → Note A → Alternatives → A → A
  alternatives_noted note no_alternatives = nothing
  alternatives_noted note (and_alternative at choices ss more) =
      each_noted (choice_noted note) choices ▷ statements_noted note ss ▷ alternatives_noted note more

  pub selective_noted : {A : Type 0} → Note A → Selective → A → A
  selective_noted note (some_statements guard ss) = maybe_noted (guard_noted note) guard ▷ statements_noted note ss
  selective_noted note (terminate guard at) = maybe_noted (guard_noted note) guard

  pub selectives_noted : {A : Type 0} → Note A → Selectives → A → A
  selectives_noted note no_selectives = nothing
  selectives_noted note (and_selective a more) = selective_noted note a ▷ selectives_noted note more
