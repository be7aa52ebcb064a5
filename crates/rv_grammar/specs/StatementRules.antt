-- How statements are read, by recursive descent.
use Rattle.std.specs.Prelude.{ℕ, zero, suc, Bool, true, false, if◌then◌else◌, ◌||◌, List, [], ◌∷◌, ◌++◌, length, Option, None, Ok, Err}
use Rattle.rv_lex.specs.declared.kind.Kind.{Kind}
use Rattle.rv_lex.specs.declared.kind.Kind.TheVariants as k
use Rattle.rv_lex.specs.Lexes.{Lexeme}
use Rattle.rv_tree.specs.Names.{Identifier}
use Rattle.rv_tree.specs.Expressions as e
use Rattle.rv_tree.specs.Statements as t
use Rattle.rv_grammar.specs.Reading.{Parser, unexpected, too_deep, ◌>>=◌, ◌>>◌, pure, refuse, sees, place, by_kind, starts_by, eat, expect, many, at_least_one, listed, optional, optional_after}
use Rattle.rv_grammar.specs.NameRules.{identifier, name}
use Rattle.rv_grammar.specs.ExpressionRules.{begins_expression, arguments, opening, inside}
use Rattle.rv_grammar.specs.DeclarationRules.{any_expression, range, parameters}

-- alt = "others" | expr [".." expr]
unfoldable pub choice : Parser t.Choice
choice = λ i. if sees k.Others i then (do at ← expect k.Others; pure (t.others at)) i else (do
  low ← any_expression
  goes_on ← eat k.DoubleDot
  if goes_on then (do high ← any_expression; pure (t.between low high)) else pure (t.value low)) i

abbrev pub sees_choice : List Lexeme → Bool
sees_choice i = sees k.Others i || starts_by begins_expression i

-- [".." expr], behind an expression
abbrev pub two_from : e.Expression → Parser t.LoopBounds
two_from low = do
  goes_on ← eat k.DoubleDot
  if goes_on then (do high ← any_expression; pure (t.two_bounds low high)) else pure (t.whole_bounds low)

-- behind an expression; a name alone may have a range
abbrev pub bounds_from : e.Expression → Parser t.LoopBounds
bounds_from (e.name n) = λ i. if sees k.Range i then (do r ← range; pure (t.constrained_bounds n r)) i else two_from (e.name n) i
bounds_from low = two_from low

unfoldable pub bounds : Parser t.LoopBounds
bounds = any_expression >>= bounds_from

unfoldable pub for_loop : Parser t.Iteration
for_loop = do
  parameter ← identifier
  expect k.In
  is_reverse ← eat k.Reverse
  over ← bounds
  expect k.Loop
  pure (t.for_each parameter is_reverse over)

unfoldable pub while_loop : Parser t.Iteration
while_loop = do
  condition ← any_expression
  expect k.Loop
  pure (t.while_true condition)

-- ["while" expr | "for" id "in" ["reverse"] bounds] "loop"
unfoldable pub iteration : Parser t.Iteration
iteration = do
  is_while ← eat k.While
  if is_while then while_loop else (do
    is_for ← eat k.For
    if is_for then for_loop else (expect k.Loop >> pure t.forever))

unfoldable pub null_statement : Parser t.Statement
null_statement = do
  at ← expect k.Null
  expect k.Semicolon
  pure (t.null_statement at)

unfoldable pub call_arguments : Parser (List e.Expression)
call_arguments = λ i. if sees k.LeftParenthesis i then arguments (opening 64) (inside 64) i else Ok ([], i)

-- name (":=" expr | [args]) ";"
unfoldable pub named_statement : Parser t.Statement
named_statement = do
  n ← name
  is_assignment ← eat k.Becomes
  if is_assignment then (do value ← any_expression; expect k.Semicolon; pure (t.assignment n value))
      else (do es ← call_arguments; expect k.Semicolon; pure (t.call_statement n (e.expressions_of es)))

unfoldable pub exit_statement : Parser t.Statement
exit_statement = do
  at ← expect k.Exit
  condition ← optional_after k.When any_expression
  expect k.Semicolon
  pure (t.exit_statement at condition)

unfoldable pub return_statement : Parser t.Statement
return_statement = do
  at ← expect k.Return
  value ← optional (starts_by begins_expression) any_expression
  expect k.Semicolon
  pure (t.return_statement at value)

unfoldable pub raise_statement : Parser t.Statement
raise_statement = do
  at ← expect k.Raise
  exception ← optional (sees k.Identifier) name
  expect k.Semicolon
  pure (t.raise_statement at exception)

unfoldable pub delay_statement : Parser t.Statement
delay_statement = do
  at ← expect k.Delay
  is_until ← eat k.Until
  time ← any_expression
  expect k.Semicolon
  pure (t.delay_statement at is_until time)

unfoldable pub abort_statement : Parser t.Statement
abort_statement = do
  at ← expect k.Abort
  names ← listed k.Comma name
  expect k.Semicolon
  pure (t.abort_statement at names)

-- ["with" "abort"]
unfoldable pub with_abort : Parser Bool
with_abort = do
  is_there ← eat k.With
  if is_there then (expect k.Abort >> pure true) else pure false

unfoldable pub requeue_statement : Parser t.Statement
requeue_statement = do
  at ← expect k.Requeue
  target ← name
  is_abort ← with_abort
  expect k.Semicolon
  pure (t.requeue_statement at target is_abort)

unfoldable pub guard : Parser t.Guard
guard = do
  at ← expect k.When
  condition ← any_expression
  expect k.Arrow
  pure (record { at = at; condition = condition })

abbrev pub simple_by : Kind → Parser t.Statement
simple_by k.Identifier = named_statement
simple_by k.Null = null_statement
simple_by k.Exit = exit_statement
simple_by k.Return = return_statement
simple_by k.Raise = raise_statement
simple_by k.Delay = delay_statement
simple_by k.Abort = abort_statement
simple_by k.Requeue = requeue_statement
simple_by _ = refuse

-- a statement that holds no others
unfoldable pub simple_statement : Parser t.Statement
simple_statement = by_kind simple_by

abbrev pub begins_statement : Kind → Bool
begins_statement k.Identifier = true
begins_statement k.Null = true
begins_statement k.If = true
begins_statement k.Case = true
begins_statement k.While = true
begins_statement k.For = true
begins_statement k.Loop = true
begins_statement k.Exit = true
begins_statement k.Return = true
begins_statement k.Raise = true
begins_statement k.Delay = true
begins_statement k.Abort = true
begins_statement k.Requeue = true
begins_statement k.Accept = true
begins_statement k.Select = true
begins_statement _ = false

abbrev pub sees_statement : List Lexeme → Bool
sees_statement = starts_by begins_statement

module _ (inner : Parser t.Statement) where
  -- stmt {stmt}
  unfoldable pub statements : Parser (List t.Statement)
  statements = at_least_one sees_statement inner

  -- [word stmts]
  unfoldable pub statements_after : Kind → Parser (List t.Statement)
  statements_after word = do
    is_there ← eat word
    if is_there then statements else pure []

  unfoldable pub elsif_part : Parser t.ElsifPart
  elsif_part = do
    at ← expect k.Elsif
    condition ← any_expression
    expect k.Then
    ss ← statements
    pure (record { at = at; condition = condition; statements = t.statements_of ss })

  unfoldable pub elsif_parts : Parser (List t.ElsifPart)
  elsif_parts = many (sees k.Elsif) elsif_part

  unfoldable pub if_statement : Parser t.Statement
  if_statement = do
    at ← expect k.If
    condition ← any_expression
    expect k.Then
    ss ← statements
    parts ← elsif_parts
    otherwise ← statements_after k.Else
    expect k.End
    expect k.If
    expect k.Semicolon
    pure (t.if_statement at condition (t.statements_of ss) (t.elsif_parts_of parts) (t.statements_of otherwise))

  unfoldable pub alternative : Parser t.CaseAlternative
  alternative = do
    at ← expect k.When
    choices ← listed k.Bar choice
    expect k.Arrow
    ss ← statements
    pure (record { at = at; choices = choices; statements = t.statements_of ss })

  unfoldable pub alternatives : Parser (List t.CaseAlternative)
  alternatives = many (sees k.When) alternative

  unfoldable pub case_statement : Parser t.Statement
  case_statement = do
    at ← expect k.Case
    selector ← any_expression
    expect k.Is
    choices ← alternatives
    expect k.End
    expect k.Case
    expect k.Semicolon
    pure (t.case_statement at selector (t.alternatives_of choices))

  unfoldable pub loop_statement : Parser t.Statement
  loop_statement = λ i. (do
    turns ← iteration
    ss ← statements
    expect k.End
    expect k.Loop
    expect k.Semicolon
    pure (t.loop_statement (place i) turns (t.statements_of ss))) i

  -- ["do" stmts "end" [id]]
  unfoldable pub accept_body : Parser (List t.Statement × Option Identifier)
  accept_body = do
    is_there ← eat k.Do
    if is_there then (do ss ← statements; expect k.End; end ← optional (sees k.Identifier) identifier; pure (ss, end)) else pure ([], None)

  unfoldable pub accept_statement : Parser t.Statement
  accept_statement = do
    at ← expect k.Accept
    called ← identifier
    ps ← parameters
    body ← accept_body
    expect k.Semicolon
    pure (t.accept_statement at called ps (t.statements_of body.0) body.1)

  unfoldable pub selective : Parser t.Selective
  selective = do
    g ← optional (sees k.When) guard
    λ i. if sees k.Terminate i then (do at ← expect k.Terminate; expect k.Semicolon; pure (t.terminate g at)) i
        else (do ss ← statements; pure (t.some_statements g (t.statements_of ss))) i

  unfoldable pub selectives_from : ℕ → List t.Selective → Parser (List t.Selective)
  selectives_from zero found = refuse
  selectives_from (suc n) found = do
    a ← selective
    goes_on ← eat k.Or
    if goes_on then selectives_from n (found ++ a ∷ []) else pure (found ++ a ∷ [])

  -- sel {"or" sel}
  unfoldable pub selectives : Parser (List t.Selective)
  selectives = λ i. selectives_from (length i) [] i

  -- ["then" "abort" stmts]
  unfoldable pub then_abort : Parser (List t.Statement)
  then_abort = do
    is_there ← eat k.Then
    if is_there then (expect k.Abort >> statements) else pure []

  unfoldable pub select_statement : Parser t.Statement
  select_statement = do
    at ← expect k.Select
    chosen ← selectives
    otherwise ← statements_after k.Else
    aborted ← then_abort
    expect k.End
    expect k.Select
    expect k.Semicolon
    pure (t.select_statement at (t.selectives_of chosen) (t.statements_of otherwise) (t.statements_of aborted))

  abbrev pub statement_by : Kind → Parser t.Statement
  statement_by k.If = if_statement
  statement_by k.Case = case_statement
  statement_by k.While = loop_statement
  statement_by k.For = loop_statement
  statement_by k.Loop = loop_statement
  statement_by k.Accept = accept_statement
  statement_by k.Select = select_statement
  statement_by _ = simple_statement

  unfoldable pub any_statement : Parser t.Statement
  any_statement = by_kind statement_by

-- a statement in which at most so many statements are open one inside another, itself among them
unfoldable pub statement : ℕ → Parser t.Statement
statement zero = λ i. if sees_statement i then Err too_deep else Err unexpected
statement (suc n) = any_statement (statement n)
