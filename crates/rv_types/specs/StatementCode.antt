-- The code of statements (ISO/IEC 8652:2012, 5, 6.4, 6.5, 9.5.3, 9.6, 11.3).
use Rattle.std.specs.Prelude.{ℕ, pos, Bool, true, false, if◌then◌else◌, List, [], ◌∷◌, ◌++◌, Option, Some, None}
use Rattle.rv_tree.specs.Names.{Identifier, Name}
use Rattle.rv_tree.specs.Expressions.{Expression}
use Rattle.rv_tree.specs.Statements.{LoopBounds, forever, while_true, for_each, Statement, null_statement, assignment, call_statement, if_statement, case_statement, loop_statement, exit_statement, return_statement, raise_statement, delay_statement, abort_statement, requeue_statement, accept_statement, select_statement, Statements, no_statements, and_statement, ElsifParts, no_elsif_parts, and_elsif_part, Alternatives, no_alternatives, and_alternative}
use Rattle.rv_shape.specs.declared.kind.Range.{Range}
use Rattle.rv_shape.specs.declared.kind.ValueType.TheVariants.{Boolean, Time}
use Rattle.rv_static.specs.Static.{◌>>=◌}
use Rattle.rv_scope.specs.Statics.{whole_range}
use Rattle.rv_code.specs.Expressions as c
use Rattle.rv_code.specs.Expressions.{literal, within, no_expressions, and_expression}
use Rattle.rv_code.specs.Statements as code
use Rattle.rv_code.specs.declared.expression.Callee.TheVariants.{DelayUntil}
use Rattle.rv_code.specs.declared.statement.Choice.{Choice}
use Rattle.rv_types.specs.declared.denoted.Denoted.{Denoted}
use Rattle.rv_types.specs.declared.denoted.Denoted.TheVariants as d
use Rattle.rv_types.specs.Points.{PointView, denotes, in_bounds, with_loop_parameter, has_slot}
use Rattle.rv_types.specs.Typed.{Typed, typed, typed_as}
use Rattle.rv_types.specs.Targets.{target_of, assigned, called}
use Rattle.rv_types.specs.Loops.{Bounds, bounds_of, discrete, choices_onto}
use Rattle.rv_types.specs.Selectors.{selector_subtype}
use Rattle.rv_types.specs.Coverage.{covers}

-- an exit, without a condition always (5.7)
abbrev pub exit_of : PointView → Option Expression → Option code.Statement
exit_of p None = Some (code.exit_when (literal (pos 1)))
exit_of p (Some e) = typed_as p Boolean e >>= λ c. Some (code.exit_when c)

-- a return: with a value of the result's range in a function, and without one elsewhere (6.5)
abbrev pub return_of : PointView → Option Range → Option Expression → Option code.Statement
return_of p None None = Some code.returns
return_of p None (Some e) = None
return_of p (Some r) None = None
return_of p (Some r) (Some e) = typed_as p r.of e >>= λ c. Some (code.returns_value (within r c))

abbrev pub exception_in : Denoted → Option code.Statement
exception_in (d.Exception exception) = Some (code.raises exception)
exception_in found = None

-- a raise, without a name of the exception that is handled (11.3)
abbrev pub raise_of : PointView → Option Name → Option code.Statement
raise_of p None = Some code.reraises
raise_of p (Some n) = exception_in (denotes p n)

-- `delay until` a Time, which each value of the type is (9.6)
abbrev pub delay_of : PointView → Bool → Expression → Option code.Statement
delay_of p true e = typed_as p Time e >>= λ c. Some (code.calls DelayUntil (and_expression (within (whole_range Time) c) no_expressions) [])
delay_of p false e = None

-- the values that a selector's type has (5.4)
abbrev pub selected_range : Typed → Option Range
selected_range selector = discrete (whole_range selector.of)

-- a choice between alternatives, where each value of the selector's subtype is of exactly one choice (5.4)
abbrev pub selection_of : c.Expression → Range → code.Alternatives → Option code.Statement
selection_of selector r alternatives = if covers r alternatives then Some (code.selection selector alternatives) else None

-- a branch, and an alternative, with these statements
abbrev pub branch_with : c.Expression → List code.Statement → code.Branch
branch_with c ss = record { condition = c; statements = code.statements_of ss }

abbrev pub alternative_with : List Choice → List code.Statement → code.Alternative
alternative_with cs ss = record { choices = cs; statements = code.statements_of ss }

-- a loop with a parameter of this slot over these bounds
abbrev pub for_loop_with : ℕ → Bool → Bounds → List code.Statement → Option code.Statement
for_loop_with slot is_reverse b body = Some (code.for_loop slot is_reverse b.range b.low b.high (code.statements_of body))

abbrev mutual
  pub statement_of : PointView → Statement → Option code.Statement
  statement_of p (null_statement at) = Some code.null_statement
  statement_of p (assignment n e) = target_of p n >>= assigned p e
  statement_of p (call_statement n es) = called p n es
  statement_of p (if_statement at condition ss parts otherwise) =
      typed_as p Boolean condition >>= λ c. statements_onto p ss [] >>= λ chosen.
      branches_onto p parts (branch_with c chosen ∷ []) >>= λ branches.
      statements_onto p otherwise [] >>= λ others. Some (code.choice (code.branches_of branches) (code.statements_of others))
  statement_of p (case_statement at selector alternatives) =
      typed p true selector >>= λ value. selected_range value >>= λ r. alternatives_onto p r alternatives [] >>= λ done.
      selection_of value.code (selector_subtype p r selector) (code.alternatives_of done)
  statement_of p (loop_statement at forever ss) =
      statements_onto p ss [] >>= λ body. Some (code.while_loop (literal (pos 1)) (code.statements_of body))
  statement_of p (loop_statement at (while_true condition) ss) =
      typed_as p Boolean condition >>= λ c. statements_onto p ss [] >>= λ body. Some (code.while_loop c (code.statements_of body))
  statement_of p (loop_statement at (for_each i is_reverse bounds) ss) =
      if has_slot p then
      (bounds_of (in_bounds i p) bounds >>= λ b.
      statements_onto (with_loop_parameter i b.parameter (in_bounds i p)) ss [] >>= for_loop_with p.slots is_reverse b)
      else None
  statement_of p (exit_statement at condition) = exit_of p condition
  statement_of p (return_statement at e) = return_of p p.result e
  statement_of p (raise_statement at n) = raise_of p n
  statement_of p (delay_statement at is_until e) = delay_of p is_until e
  statement_of p (abort_statement at names) = None
  statement_of p (requeue_statement at target with_abort) = None
  statement_of p (accept_statement at entry parameters ss end_name) = None
  statement_of p (select_statement at alternatives otherwise aborted) = None

  pub statements_onto : PointView → Statements → List code.Statement → Option (List code.Statement)
  statements_onto p no_statements done = Some done
  statements_onto p (and_statement s ss) done = statement_of p s >>= λ one. statements_onto p ss (done ++ one ∷ [])

  -- what stands behind `elsif` (5.3)
  pub branches_onto : PointView → ElsifParts → List code.Branch → Option (List code.Branch)
  branches_onto p no_elsif_parts done = Some done
  branches_onto p (and_elsif_part at condition ss parts) done =
      typed_as p Boolean condition >>= λ c. statements_onto p ss [] >>= λ chosen.
      branches_onto p parts (done ++ branch_with c chosen ∷ [])

  -- alternatives for a selector of this range (5.4)
  pub alternatives_onto : PointView → Range → Alternatives → List code.Alternative → Option (List code.Alternative)
  alternatives_onto p r no_alternatives done = Some done
  alternatives_onto p r (and_alternative at choices ss more) done =
      choices_onto p r choices [] >>= λ cs. statements_onto p ss [] >>= λ chosen.
      alternatives_onto p r more (done ++ alternative_with cs chosen ∷ [])

-- a loop with a parameter; its place says nothing
abbrev pub for_loop_of : PointView → Identifier → Bool → LoopBounds → Statements → Option code.Statement
for_loop_of p i is_reverse bounds ss = statement_of p (loop_statement 0 (for_each i is_reverse bounds) ss)
