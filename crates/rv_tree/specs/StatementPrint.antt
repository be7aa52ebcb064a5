-- How statements are printed.
use Rattle.std.specs.Prelude.{Bool, true, false, Option}
use Rattle.rv_lex.specs.declared.kind.Kind.TheVariants as k
use Rattle.rv_tree.specs.Onto.{Onto, ◌▷◌, kind_onto, nothing_onto, flag_onto, maybe_onto, after_onto, listed_onto}
use Rattle.rv_tree.specs.Names.{Identifier}
use Rattle.rv_tree.specs.NamePrint.{identifier_onto, name_onto}
use Rattle.rv_tree.specs.Expressions.{Expression}
use Rattle.rv_tree.specs.ExpressionPrint.{expression_onto, arguments_onto, range_onto}
use Rattle.rv_tree.specs.DeclarationPrint.{parameters_onto, initial_onto}
use Rattle.rv_tree.specs.Statements.{Choice, others, value, between, LoopBounds, whole_bounds, two_bounds, constrained_bounds, Iteration, forever, while_true, for_each, Guard, Statement, null_statement, assignment, call_statement, if_statement, case_statement, loop_statement, exit_statement, return_statement, raise_statement, delay_statement, abort_statement, requeue_statement, accept_statement, select_statement, Statements, no_statements, and_statement, ElsifParts, no_elsif_parts, and_elsif_part, Alternatives, no_alternatives, and_alternative, Selective, some_statements, terminate, Selectives, no_selectives, and_selective}

abbrev pub choice_onto : Choice → Onto
choice_onto (others at) = kind_onto k.Others
choice_onto (value e) = expression_onto e
choice_onto (between low high) = expression_onto low ▷ kind_onto k.DoubleDot ▷ expression_onto high

abbrev pub bounds_onto : LoopBounds → Onto
bounds_onto (whole_bounds e) = expression_onto e
bounds_onto (two_bounds low high) = expression_onto low ▷ kind_onto k.DoubleDot ▷ expression_onto high
bounds_onto (constrained_bounds mark range) = name_onto mark ▷ range_onto range

abbrev pub iteration_onto : Iteration → Onto
iteration_onto forever = kind_onto k.Loop
iteration_onto (while_true condition) = kind_onto k.While ▷ expression_onto condition ▷ kind_onto k.Loop
iteration_onto (for_each parameter is_reverse bounds) = kind_onto k.For ▷ identifier_onto parameter ▷ kind_onto k.In ▷ flag_onto k.Reverse is_reverse ▷ bounds_onto bounds ▷ kind_onto k.Loop

abbrev pub condition_onto : Expression → Onto
condition_onto = after_onto k.When expression_onto

abbrev pub guard_onto : Guard → Onto
guard_onto g = kind_onto k.When ▷ expression_onto g.condition ▷ kind_onto k.Arrow

abbrev pub with_abort_onto : Bool → Onto
with_abort_onto true = kind_onto k.With ▷ kind_onto k.Abort
with_abort_onto false = nothing_onto

abbrev mutual
  pub statement_onto : Statement → Onto
  statement_onto (null_statement at) out = kind_onto k.Semicolon (kind_onto k.Null out)
  statement_onto (assignment name e) out = kind_onto k.Semicolon (initial_onto e (name_onto name out))
  statement_onto (call_statement name es) out = kind_onto k.Semicolon (arguments_onto es (name_onto name out))
  statement_onto (if_statement at condition ss parts otherwise) out =
      kind_onto k.Semicolon (kind_onto k.If (kind_onto k.End (else_onto otherwise (elsif_parts_onto parts (statements_onto ss (kind_onto k.Then (expression_onto condition (kind_onto k.If out))))))))
  statement_onto (case_statement at selector alternatives) out =
      kind_onto k.Semicolon (kind_onto k.Case (kind_onto k.End (alternatives_onto alternatives (kind_onto k.Is (expression_onto selector (kind_onto k.Case out))))))
  statement_onto (loop_statement at iteration ss) out =
      kind_onto k.Semicolon (kind_onto k.Loop (kind_onto k.End (statements_onto ss (iteration_onto iteration out))))
  statement_onto (exit_statement at condition) out = kind_onto k.Semicolon (maybe_onto condition_onto condition (kind_onto k.Exit out))
  statement_onto (return_statement at e) out = kind_onto k.Semicolon (maybe_onto expression_onto e (kind_onto k.Return out))
  statement_onto (raise_statement at name) out = kind_onto k.Semicolon (maybe_onto name_onto name (kind_onto k.Raise out))
  statement_onto (delay_statement at is_until e) out = kind_onto k.Semicolon (expression_onto e (flag_onto k.Until is_until (kind_onto k.Delay out)))
  statement_onto (abort_statement at names) out = kind_onto k.Semicolon (listed_onto k.Comma name_onto names (kind_onto k.Abort out))
  statement_onto (requeue_statement at target with_abort) out = kind_onto k.Semicolon (with_abort_onto with_abort (name_onto target (kind_onto k.Requeue out)))
  statement_onto (accept_statement at entry parameters ss end_name) out =
      kind_onto k.Semicolon (accept_body_onto ss end_name (parameters_onto parameters (identifier_onto entry (kind_onto k.Accept out))))
  statement_onto (select_statement at alternatives otherwise aborted) out =
      kind_onto k.Semicolon (kind_onto k.Select (kind_onto k.End (then_abort_onto aborted (else_onto otherwise (selectives_onto alternatives (kind_onto k.Select out))))))

  pub statements_onto : Statements → Onto
  statements_onto no_statements out = out
  statements_onto (and_statement s ss) out = statements_onto ss (statement_onto s out)

  pub elsif_parts_onto : ElsifParts → Onto
  elsif_parts_onto no_elsif_parts out = out
  elsif_parts_onto (and_elsif_part at condition ss parts) out =
      elsif_parts_onto parts (statements_onto ss (kind_onto k.Then (expression_onto condition (kind_onto k.Elsif out))))

  -- nothing where there are no statements
  pub else_onto : Statements → Onto
  else_onto no_statements out = out
  else_onto (and_statement s ss) out = statements_onto ss (statement_onto s (kind_onto k.Else out))

  pub alternatives_onto : Alternatives → Onto
  alternatives_onto no_alternatives out = out
  alternatives_onto (and_alternative at choices ss more) out =
      alternatives_onto more (statements_onto ss (kind_onto k.Arrow (listed_onto k.Bar choice_onto choices (kind_onto k.When out))))

  pub accept_body_onto : Statements → Option Identifier → Onto
  accept_body_onto no_statements end_name out = out
  accept_body_onto (and_statement s ss) end_name out =
      maybe_onto identifier_onto end_name (kind_onto k.End (statements_onto ss (statement_onto s (kind_onto k.Do out))))

  pub selective_onto : Selective → Onto
  selective_onto (some_statements guard ss) out = statements_onto ss (maybe_onto guard_onto guard out)
  selective_onto (terminate guard at) out = kind_onto k.Semicolon (kind_onto k.Terminate (maybe_onto guard_onto guard out))

  pub selectives_onto : Selectives → Onto
  selectives_onto no_selectives out = out
  selectives_onto (and_selective a more) out = more_selectives_onto more (selective_onto a out)

  pub more_selectives_onto : Selectives → Onto
  more_selectives_onto no_selectives out = out
  more_selectives_onto (and_selective a more) out = more_selectives_onto more (selective_onto a (kind_onto k.Or out))

  pub then_abort_onto : Statements → Onto
  then_abort_onto no_statements out = out
  then_abort_onto (and_statement s ss) out = statements_onto ss (statement_onto s (kind_onto k.Abort (kind_onto k.Then out)))
