-- How blocks and bodies are read.
use Rattle.std.specs.Prelude.{ℕ, Bool, true, false, if◌then◌else◌, List, [], Option}
use Rattle.rv_lex.specs.declared.kind.Kind.{Kind}
use Rattle.rv_lex.specs.declared.kind.Kind.TheVariants as k
use Rattle.rv_tree.specs.Names.{Identifier}
use Rattle.rv_tree.specs.Statements as s
use Rattle.rv_tree.specs.Bodies as t
use Rattle.rv_grammar.specs.Reading.{Parser, ◌>>=◌, ◌>>◌, pure, refuse, sees, by_kind, starts_by, eat, expect, many, at_least_one, listed, optional, optional_after}
use Rattle.rv_grammar.specs.NameRules.{identifier, name, end_name}
use Rattle.rv_grammar.specs.DeclarationRules.{any_expression, range, a_pragma, parameters, protected_unit, task}
use Rattle.rv_grammar.specs.StatementRules.{statement, statements}

-- 64 statements may be open one inside another
unfoldable pub any_statements : Parser (List s.Statement)
any_statements = statements (statement 64)

unfoldable pub local_object : Parser t.Local
local_object = do
  names ← listed k.Comma identifier
  expect k.Colon
  is_constant ← eat k.Constant
  mark ← name
  constraint ← optional (sees k.Range) range
  value ← optional_after k.Becomes any_expression
  expect k.Semicolon
  pure (t.an_object names is_constant mark constraint value)

abbrev pub begins_local : Kind → Bool
begins_local k.Identifier = true
begins_local k.Pragma = true
begins_local k.Protected = true
begins_local k.Task = true
begins_local _ = false

abbrev pub local_by : Kind → Parser t.Local
local_by k.Identifier = local_object
local_by k.Pragma = a_pragma >>= λ p. pure (t.local_pragma p)
local_by k.Protected = protected_unit >>= λ u. pure (t.local_protected_unit u)
local_by k.Task = task >>= λ u. pure (t.local_task u)
local_by _ = refuse

unfoldable pub a_local : Parser t.Local
a_local = by_kind local_by

abbrev pub begins_exception_choice : Kind → Bool
begins_exception_choice k.Identifier = true
begins_exception_choice k.Others = true
begins_exception_choice _ = false

unfoldable pub exception_choice : Parser t.ExceptionChoice
exception_choice = λ i. if sees k.Others i then (do at ← expect k.Others; pure (t.other_exceptions at)) i else (name >>= λ n. pure (t.exception_named n)) i

unfoldable pub handler : Parser t.Handler
handler = do
  at ← expect k.When
  choices ← listed k.Bar exception_choice
  expect k.Arrow
  ss ← any_statements
  pure (record { at = at; choices = choices; statements = s.statements_of ss })

-- ["exception" handler {handler}]
unfoldable pub handlers : Parser (List t.Handler)
handlers = do
  is_there ← eat k.Exception
  if is_there then at_least_one (sees k.When) handler else pure []

unfoldable pub block : Parser t.Block
block = do
  locals ← many (starts_by begins_local) a_local
  expect k.Begin
  ss ← any_statements
  hs ← handlers
  end ← end_name
  pure (record { locals = locals; statements = s.statements_of ss; handlers = hs; end_name = end })

unfoldable pub function_body : Parser t.OperationBody
function_body = do
  at ← expect k.Function
  n ← identifier
  ps ← parameters
  expect k.Return
  mark ← name
  expect k.Is
  b ← block
  pure (t.function_body at n ps mark b)

unfoldable pub procedure_body : Parser t.OperationBody
procedure_body = do
  at ← expect k.Procedure
  n ← identifier
  ps ← parameters
  expect k.Is
  b ← block
  pure (t.procedure_body at n ps b)

unfoldable pub entry_body : Parser t.OperationBody
entry_body = do
  at ← expect k.Entry
  n ← identifier
  ps ← parameters
  expect k.When
  barrier ← any_expression
  expect k.Is
  b ← block
  pure (t.entry_body at n ps barrier b)

abbrev pub begins_operation_body : Kind → Bool
begins_operation_body k.Function = true
begins_operation_body k.Procedure = true
begins_operation_body k.Entry = true
begins_operation_body _ = false

abbrev pub operation_body_by : Kind → Parser t.OperationBody
operation_body_by k.Function = function_body
operation_body_by k.Procedure = procedure_body
operation_body_by k.Entry = entry_body
operation_body_by _ = refuse

unfoldable pub operation_body : Parser t.OperationBody
operation_body = by_kind operation_body_by

-- word "body" id "is" {x} "end" [id] ";", and what is made of them
unfoldable pub body_of : {A B : Type 0} → Kind → (Kind → Bool) → Parser A → ((at : ℕ) → Identifier → List A → Option Identifier → B) → Parser B
body_of word begins item make = do
  at ← expect word
  expect k.Body
  n ← identifier
  expect k.Is
  items ← many (starts_by begins) item
  end ← end_name
  pure (make at n items end)

unfoldable pub protected_body : Parser t.ProtectedBody
protected_body = body_of k.Protected begins_operation_body operation_body
    (λ at n os end. record { at = at; name = n; operations = os; end_name = end })

unfoldable pub task_body : Parser t.TaskBody
task_body = do
  at ← expect k.Task
  expect k.Body
  n ← identifier
  expect k.Is
  b ← block
  pure (record { at = at; name = n; block = b })
