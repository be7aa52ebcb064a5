-- How declarations are read.
use Rattle.std.specs.Prelude.{Bool, true, false, if◌then◌else◌, ◌&&◌, List, [], Option, Some, None, Ok}
use Rattle.rv_lex.specs.declared.kind.Kind.{Kind}
use Rattle.rv_lex.specs.declared.kind.Kind.TheVariants as k
use Rattle.rv_tree.specs.declared.declaration.Mode.{Mode}
use Rattle.rv_tree.specs.declared.declaration.Mode.TheVariants.{NotWritten, In, Out, InOut}
use Rattle.rv_tree.specs.Names.{Identifier}
use Rattle.rv_tree.specs.Expressions.{Expression, RangeConstraint}
use Rattle.rv_tree.specs.Declarations as t
use Rattle.rv_grammar.specs.Reading.{Parser, ◌>>=◌, ◌>>◌, pure, refuse, sees, next, by_kind, starts_by, eat, expect, many, listed, enclosed, optional, optional_after}
use Rattle.rv_grammar.specs.NameRules.{identifier, name, end_name}
use Rattle.rv_grammar.specs.ExpressionRules.{expression}

-- 64 parentheses may be open one inside another
abbrev pub any_expression : Parser Expression
any_expression = expression 64

unfoldable pub range : Parser RangeConstraint
range = do
  at ← expect k.Range
  low ← any_expression
  expect k.DoubleDot
  high ← any_expression
  pure (record { at = at; low = low; high = high })

-- [id "=>"]
unfoldable pub argument_name : Parser (Option Identifier)
argument_name = λ i. if sees k.Identifier i && sees k.Arrow (next i) then (do n ← identifier; expect k.Arrow; pure (Some n)) i else Ok (None, i)

-- inside the parenthesis of the pragma
unfoldable pub pragma_argument : Parser t.PragmaArgument
pragma_argument = do
  n ← argument_name
  value ← expression 63
  pure (record { name = n; value = value })

unfoldable pub a_pragma : Parser t.Pragma
a_pragma = do
  at ← expect k.Pragma
  n ← identifier
  arguments ← enclosed k.Comma pragma_argument
  expect k.Semicolon
  pure (record { at = at; name = n; arguments = arguments })

unfoldable pub aspect : Parser t.Aspect
aspect = do
  n ← identifier
  value ← optional_after k.Arrow any_expression
  pure (record { name = n; value = value })

unfoldable pub aspects : Parser (List t.Aspect)
aspects = do
  is_there ← eat k.With
  if is_there then listed k.Comma aspect else pure []

abbrev pub mode_of : Bool → Bool → Mode
mode_of true true = InOut
mode_of true false = In
mode_of false true = Out
mode_of false false = NotWritten

unfoldable pub mode : Parser Mode
mode = do
  is_in ← eat k.In
  is_out ← eat k.Out
  pure (mode_of is_in is_out)

unfoldable pub parameter : Parser t.Parameter
parameter = do
  names ← listed k.Comma identifier
  expect k.Colon
  m ← mode
  mark ← name
  pure (record { names = names; mode = m; mark = mark })

unfoldable pub parameters : Parser (List t.Parameter)
parameters = enclosed k.Semicolon parameter

unfoldable pub entry : Parser t.EntryDeclaration
entry = do
  at ← expect k.Entry
  n ← identifier
  ps ← parameters
  expect k.Semicolon
  pure (record { at = at; name = n; parameters = ps })

unfoldable pub function : Parser t.OperationDeclaration
function = do
  at ← expect k.Function
  n ← identifier
  ps ← parameters
  expect k.Return
  mark ← name
  expect k.Semicolon
  pure (t.a_function at n ps mark)

unfoldable pub procedure : Parser t.OperationDeclaration
procedure = do
  at ← expect k.Procedure
  n ← identifier
  ps ← parameters
  given ← aspects
  expect k.Semicolon
  pure (t.a_procedure at n ps given)

abbrev pub begins_operation : Kind → Bool
begins_operation k.Pragma = true
begins_operation k.Function = true
begins_operation k.Procedure = true
begins_operation k.Entry = true
begins_operation _ = false

abbrev pub operation_by : Kind → Parser t.OperationDeclaration
operation_by k.Pragma = a_pragma >>= λ p. pure (t.a_pragma p)
operation_by k.Function = function
operation_by k.Procedure = procedure
operation_by k.Entry = entry >>= λ e. pure (t.an_entry e)
operation_by _ = refuse

unfoldable pub operation : Parser t.OperationDeclaration
operation = by_kind operation_by

unfoldable pub component : Parser t.ProtectedElement
component = do
  names ← listed k.Comma identifier
  expect k.Colon
  mark ← name
  constraint ← optional (sees k.Range) range
  value ← optional_after k.Becomes any_expression
  expect k.Semicolon
  pure (t.a_component names mark constraint value)

abbrev pub begins_element : Kind → Bool
begins_element k.Identifier = true
begins_element k.Pragma = true
begins_element k.Function = true
begins_element k.Procedure = true
begins_element k.Entry = true
begins_element _ = false

unfoldable pub element : Parser t.ProtectedElement
element = λ i. if sees k.Identifier i then component i else (operation >>= λ o. pure (t.an_operation o)) i

-- ["private" {pragma | op | comp}]
unfoldable pub private_part : Parser (Option (List t.ProtectedElement))
private_part = do
  is_there ← eat k.Private
  if is_there then (do es ← many (starts_by begins_element) element; pure (Some es)) else pure None

unfoldable pub protected_unit : Parser t.ProtectedUnit
protected_unit = do
  at ← expect k.Protected
  is_type ← eat k.Type
  n ← identifier
  given ← aspects
  expect k.Is
  os ← many (starts_by begins_operation) operation
  private ← private_part
  end ← end_name
  pure (record { at = at; is_type = is_type; name = n; aspects = given; operations = os; private = private; end_name = end })

abbrev pub begins_task_item : Kind → Bool
begins_task_item k.Pragma = true
begins_task_item k.Entry = true
begins_task_item _ = false

unfoldable pub task_item : Parser t.TaskItem
task_item = λ i. if sees k.Pragma i then (a_pragma >>= λ p. pure (t.task_pragma p)) i else (entry >>= λ e. pure (t.task_entry e)) i

-- ";" | "is" {pragma | entry} "end" [id] ";"
unfoldable pub task_definition : Parser (Option t.TaskDefinition)
task_definition = do
  is_there ← eat k.Is
  if is_there then (do items ← many (starts_by begins_task_item) task_item; end ← end_name; pure (Some (record { items = items; end_name = end })))
      else (expect k.Semicolon >> pure None)

unfoldable pub task : Parser t.TaskUnit
task = do
  at ← expect k.Task
  n ← identifier
  given ← aspects
  definition ← task_definition
  pure (record { at = at; name = n; aspects = given; definition = definition })

unfoldable pub a_subtype : Parser t.Declaration
a_subtype = do
  at ← expect k.Subtype
  n ← identifier
  expect k.Is
  mark ← name
  constraint ← optional (sees k.Range) range
  expect k.Semicolon
  pure (t.a_subtype at n mark constraint)

-- behind the names and ":"
unfoldable pub constant : List Identifier → Parser t.Declaration
constant names = do
  expect k.Constant
  mark ← optional (sees k.Identifier) name
  expect k.Becomes
  value ← any_expression
  expect k.Semicolon
  pure (t.a_constant names mark value)

-- behind the names and ":"
unfoldable pub variable : List Identifier → Parser t.Declaration
variable names = do
  mark ← name
  expect k.Semicolon
  pure (t.a_variable names mark)

unfoldable pub object : Parser t.Declaration
object = do
  names ← listed k.Comma identifier
  expect k.Colon
  λ i. if sees k.Constant i then constant names i else variable names i

abbrev pub begins_declaration : Kind → Bool
begins_declaration k.Pragma = true
begins_declaration k.Subtype = true
begins_declaration k.Protected = true
begins_declaration k.Task = true
begins_declaration k.Identifier = true
begins_declaration _ = false

abbrev pub declaration_by : Kind → Parser t.Declaration
declaration_by k.Pragma = a_pragma >>= λ p. pure (t.package_pragma p)
declaration_by k.Subtype = a_subtype
declaration_by k.Protected = protected_unit >>= λ u. pure (t.a_protected_unit u)
declaration_by k.Task = task >>= λ u. pure (t.a_task u)
declaration_by k.Identifier = object
declaration_by _ = refuse

unfoldable pub declaration : Parser t.Declaration
declaration = by_kind declaration_by
