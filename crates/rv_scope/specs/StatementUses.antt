-- The names that statements use (ISO/IEC 8652:2012, 5, 9.6, 11.3), in the order of the text.
use Rattle.std.specs.Prelude.{List, [], ◌∷◌}
use Rattle.rv_tree.specs.Statements.{Choice, others, value, between, LoopBounds, whole_bounds, two_bounds, constrained_bounds, Iteration, forever, while_true, for_each, Statement, null_statement, assignment, call_statement, if_statement, case_statement, loop_statement, exit_statement, return_statement, raise_statement, delay_statement, abort_statement, requeue_statement, accept_statement, select_statement, Statements, no_statements, and_statement, ElsifParts, no_elsif_parts, and_elsif_part, Alternatives, no_alternatives, and_alternative}
use Rattle.rv_scope.specs.declared.declared.Declared.TheVariants as d
use Rattle.rv_scope.specs.declared.wanted.Wanted.TheVariants as w
use Rattle.rv_scope.specs.Scope.{ScopeView, declaring, hiding, entered}
use Rattle.rv_scope.specs.ExpressionUses.{Use, ◌▷◌, nothing, simple, refused, expression_uses, value_uses, expressions_uses, maybe_uses, range_uses}

-- a choice is a value, a subtype or a range (5.4)
abbrev pub choice_uses : {A : Type 0} → Use A → ScopeView → Choice → A → A
choice_uses at_use scope (others at) = nothing
choice_uses at_use scope (value e) = expression_uses at_use scope w.Choice e
choice_uses at_use scope (between low high) = value_uses at_use scope low ▷ value_uses at_use scope high

abbrev pub choices_uses : {A : Type 0} → Use A → ScopeView → List Choice → A → A
choices_uses at_use scope [] = nothing
choices_uses at_use scope (c ∷ cs) = choice_uses at_use scope c ▷ choices_uses at_use scope cs

-- a loop goes over a subtype or a range (3.6.1)
abbrev pub bounds_uses : {A : Type 0} → Use A → ScopeView → LoopBounds → A → A
bounds_uses at_use scope (whole_bounds e) = expression_uses at_use scope w.Subtype e
bounds_uses at_use scope (two_bounds low high) = value_uses at_use scope low ▷ value_uses at_use scope high
bounds_uses at_use scope (constrained_bounds mark range) = at_use scope w.Subtype mark ▷ range_uses at_use scope range

-- a loop's parameter is hidden in its own bounds (5.5, 8.3)
abbrev pub iteration_uses : {A : Type 0} → Use A → ScopeView → Iteration → A → A
iteration_uses at_use scope forever = nothing
iteration_uses at_use scope (while_true condition) = value_uses at_use scope condition
iteration_uses at_use scope (for_each i is_reverse bounds) = bounds_uses at_use (hiding i (entered scope)) bounds

-- what is declared in a loop's statements: its parameter
abbrev pub in_loop : Iteration → ScopeView → ScopeView
in_loop forever scope = scope
in_loop (while_true condition) scope = scope
in_loop (for_each i is_reverse bounds) scope = declaring d.LoopParameter i (hiding i (entered scope))

-- the entry that an `accept` names is never bound, since the profile has no entries of tasks (9.5.2, D.7)
abbrev mutual
  pub statement_uses : {A : Type 0} → Use A → ScopeView → Statement → A → A
  statement_uses at_use scope (null_statement at) = nothing
  statement_uses at_use scope (assignment n e) = at_use scope w.Target n ▷ value_uses at_use scope e
  statement_uses at_use scope (call_statement n es) = at_use scope w.Procedure n ▷ expressions_uses at_use scope es
  statement_uses at_use scope (if_statement at condition ss parts otherwise) =
      value_uses at_use scope condition ▷ statements_uses at_use scope ss ▷ elsif_parts_uses at_use scope parts ▷ statements_uses at_use scope otherwise
  statement_uses at_use scope (case_statement at selector alternatives) =
      value_uses at_use scope selector ▷ alternatives_uses at_use scope alternatives
  statement_uses at_use scope (loop_statement at iteration ss) =
      iteration_uses at_use scope iteration ▷ statements_uses at_use (in_loop iteration scope) ss
  statement_uses at_use scope (exit_statement at condition) = maybe_uses (value_uses at_use scope) condition
  statement_uses at_use scope (return_statement at e) = maybe_uses (value_uses at_use scope) e
  statement_uses at_use scope (raise_statement at n) = maybe_uses (at_use scope w.Exception) n
  statement_uses at_use scope (delay_statement at is_until e) = value_uses at_use scope e
  statement_uses at_use scope (abort_statement at names) = refused at_use scope at
  statement_uses at_use scope (requeue_statement at target with_abort) = refused at_use scope at
  statement_uses at_use scope (accept_statement at entry parameters ss end_name) = at_use scope w.Nothing (simple entry)
  statement_uses at_use scope (select_statement at alternatives otherwise aborted) = refused at_use scope at

  pub statements_uses : {A : Type 0} → Use A → ScopeView → Statements → A → A
  statements_uses at_use scope no_statements = nothing
  statements_uses at_use scope (and_statement s ss) = statement_uses at_use scope s ▷ statements_uses at_use scope ss

  pub elsif_parts_uses : {A : Type 0} → Use A → ScopeView → ElsifParts → A → A
  elsif_parts_uses at_use scope no_elsif_parts = nothing
  elsif_parts_uses at_use scope (and_elsif_part at condition ss parts) =
      value_uses at_use scope condition ▷ statements_uses at_use scope ss ▷ elsif_parts_uses at_use scope parts

  pub alternatives_uses : {A : Type 0} → Use A → ScopeView → Alternatives → A → A
  alternatives_uses at_use scope no_alternatives = nothing
  alternatives_uses at_use scope (and_alternative at choices ss more) =
      choices_uses at_use scope choices ▷ statements_uses at_use scope ss ▷ alternatives_uses at_use scope more
