-- Statements (ISO/IEC 8652:2012, 5.1), one clause a production.
use Rattle.std.specs.Prelude.{ℕ, Bool, true, false, Option, Some, None}
use Rattle.rv_lex.specs.declared.kind.Kind.TheVariants as k
use Rattle.rv_tree.specs.Phrases.{Phrase, ◌⨾◌, Is, IsAt, Nothing, Never, Flag, Maybe, After, Listed}
use Rattle.rv_tree.specs.Names.{Identifier}
use Rattle.rv_tree.specs.NameGrammar.{IsIdentifier, IsName, AreNames}
use Rattle.rv_tree.specs.Expressions.{Expression, Expressions, no_expressions, and_expression}
use Rattle.rv_tree.specs.ExpressionGrammar.{IsExpression, AreArguments, IsRange}
use Rattle.rv_tree.specs.DeclarationGrammar.{AreParameters, IsInitial}
use Rattle.rv_tree.specs.Statements.{Choice, others, value, between, LoopBounds, whole_bounds, two_bounds, constrained_bounds, Iteration, forever, while_true, for_each, Guard, Statement, null_statement, assignment, call_statement, if_statement, case_statement, loop_statement, exit_statement, return_statement, raise_statement, delay_statement, abort_statement, requeue_statement, accept_statement, select_statement, Statements, no_statements, and_statement, ElsifParts, no_elsif_parts, and_elsif_part, Alternatives, no_alternatives, and_alternative, Selective, some_statements, terminate, Selectives, no_selectives, and_selective}

-- alt = "others" | expr [".." expr]
abbrev pub IsChoice : Choice → Phrase
IsChoice (others at) = IsAt k.Others at
IsChoice (value e) = IsExpression e
IsChoice (between low high) = IsExpression low ⨾ Is k.DoubleDot ⨾ IsExpression high

-- bounds = expr [".." expr] | name range
abbrev pub AreBounds : LoopBounds → Phrase
AreBounds (whole_bounds e) = IsExpression e
AreBounds (two_bounds low high) = IsExpression low ⨾ Is k.DoubleDot ⨾ IsExpression high
AreBounds (constrained_bounds mark range) = IsName mark ⨾ IsRange range

-- ["while" expr | "for" id "in" ["reverse"] bounds] "loop", which begins at a place
abbrev pub IsIteration : ℕ → Iteration → Phrase
IsIteration at forever = IsAt k.Loop at
IsIteration at (while_true condition) = IsAt k.While at ⨾ IsExpression condition ⨾ Is k.Loop
IsIteration at (for_each parameter is_reverse bounds) = IsAt k.For at ⨾ IsIdentifier parameter ⨾ Is k.In ⨾ Flag k.Reverse is_reverse ⨾ AreBounds bounds ⨾ Is k.Loop

-- "when" expr
abbrev pub IsCondition : Expression → Phrase
IsCondition = After k.When IsExpression

-- "when" expr "=>"
abbrev pub IsGuard : Guard → Phrase
IsGuard g = IsAt k.When g.at ⨾ IsExpression g.condition ⨾ Is k.Arrow

-- [args]
abbrev pub MaybeArguments : Expressions → Phrase
MaybeArguments no_expressions = Nothing
MaybeArguments (and_expression e es) = AreArguments (and_expression e es)

-- ["with" "abort"], which was written where the flag is true
abbrev pub IsWithAbort : Bool → Phrase
IsWithAbort true = Is k.With ⨾ Is k.Abort
IsWithAbort false = Nothing

abbrev mutual
  pub IsStatement : Statement → Phrase
  IsStatement (null_statement at) = IsAt k.Null at ⨾ Is k.Semicolon
  IsStatement (assignment name e) = IsName name ⨾ IsInitial e ⨾ Is k.Semicolon
  IsStatement (call_statement name es) = IsName name ⨾ MaybeArguments es ⨾ Is k.Semicolon
  IsStatement (if_statement at condition ss parts otherwise) =
      IsAt k.If at ⨾ IsExpression condition ⨾ Is k.Then ⨾ AreStatements ss ⨾ AreElsifParts parts ⨾ IsElse otherwise ⨾ Is k.End ⨾ Is k.If ⨾ Is k.Semicolon
  IsStatement (case_statement at selector alternatives) =
      IsAt k.Case at ⨾ IsExpression selector ⨾ Is k.Is ⨾ AreAlternatives alternatives ⨾ Is k.End ⨾ Is k.Case ⨾ Is k.Semicolon
  IsStatement (loop_statement at iteration ss) =
      IsIteration at iteration ⨾ AreStatements ss ⨾ Is k.End ⨾ Is k.Loop ⨾ Is k.Semicolon
  IsStatement (exit_statement at condition) = IsAt k.Exit at ⨾ Maybe IsCondition condition ⨾ Is k.Semicolon
  IsStatement (return_statement at e) = IsAt k.Return at ⨾ Maybe IsExpression e ⨾ Is k.Semicolon
  IsStatement (raise_statement at name) = IsAt k.Raise at ⨾ Maybe IsName name ⨾ Is k.Semicolon
  IsStatement (delay_statement at is_until e) = IsAt k.Delay at ⨾ Flag k.Until is_until ⨾ IsExpression e ⨾ Is k.Semicolon
  IsStatement (abort_statement at names) = IsAt k.Abort at ⨾ AreNames names ⨾ Is k.Semicolon
  IsStatement (requeue_statement at target with_abort) = IsAt k.Requeue at ⨾ IsName target ⨾ IsWithAbort with_abort ⨾ Is k.Semicolon
  IsStatement (accept_statement at entry parameters ss end_name) =
      IsAt k.Accept at ⨾ IsIdentifier entry ⨾ AreParameters parameters ⨾ IsAcceptBody ss end_name ⨾ Is k.Semicolon
  IsStatement (select_statement at alternatives otherwise aborted) =
      IsAt k.Select at ⨾ AreSelectives alternatives ⨾ IsElse otherwise ⨾ IsThenAbort aborted ⨾ Is k.End ⨾ Is k.Select ⨾ Is k.Semicolon

  -- stmts = stmt {stmt}
  pub AreStatements : Statements → Phrase
  AreStatements no_statements = Never
  AreStatements (and_statement s ss) = IsStatement s ⨾ MoreStatements ss

  -- {stmt}
  pub MoreStatements : Statements → Phrase
  MoreStatements no_statements = Nothing
  MoreStatements (and_statement s ss) = IsStatement s ⨾ MoreStatements ss

  -- {"elsif" expr "then" stmts}
  pub AreElsifParts : ElsifParts → Phrase
  AreElsifParts no_elsif_parts = Nothing
  AreElsifParts (and_elsif_part at condition ss parts) = IsAt k.Elsif at ⨾ IsExpression condition ⨾ Is k.Then ⨾ AreStatements ss ⨾ AreElsifParts parts

  -- ["else" stmts]
  pub IsElse : Statements → Phrase
  IsElse no_statements = Nothing
  IsElse (and_statement s ss) = Is k.Else ⨾ IsStatement s ⨾ MoreStatements ss

  -- {"when" alt {"|" alt} "=>" stmts}
  pub AreAlternatives : Alternatives → Phrase
  AreAlternatives no_alternatives = Nothing
  AreAlternatives (and_alternative at choices ss more) = IsAt k.When at ⨾ Listed k.Bar IsChoice choices ⨾ Is k.Arrow ⨾ AreStatements ss ⨾ AreAlternatives more

  -- ["do" stmts "end" [id]]
  pub IsAcceptBody : Statements → Option Identifier → Phrase
  IsAcceptBody no_statements None = Nothing
  IsAcceptBody no_statements (Some name) = Never
  IsAcceptBody (and_statement s ss) end_name = Is k.Do ⨾ IsStatement s ⨾ MoreStatements ss ⨾ Is k.End ⨾ Maybe IsIdentifier end_name

  -- sel = ["when" expr "=>"] (stmts | "terminate" ";")
  pub IsSelective : Selective → Phrase
  IsSelective (some_statements guard ss) = Maybe IsGuard guard ⨾ AreStatements ss
  IsSelective (terminate guard at) = Maybe IsGuard guard ⨾ IsAt k.Terminate at ⨾ Is k.Semicolon

  -- sel {"or" sel}
  pub AreSelectives : Selectives → Phrase
  AreSelectives no_selectives = Never
  AreSelectives (and_selective a more) = IsSelective a ⨾ MoreSelectives more

  pub MoreSelectives : Selectives → Phrase
  MoreSelectives no_selectives = Nothing
  MoreSelectives (and_selective a more) = Is k.Or ⨾ IsSelective a ⨾ MoreSelectives more

  -- ["then" "abort" stmts]
  pub IsThenAbort : Statements → Phrase
  IsThenAbort no_statements = Nothing
  IsThenAbort (and_statement s ss) = Is k.Then ⨾ Is k.Abort ⨾ IsStatement s ⨾ MoreStatements ss
