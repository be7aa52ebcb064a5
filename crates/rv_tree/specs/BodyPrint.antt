-- How blocks and bodies are printed.
use Rattle.std.specs.Prelude.{List, [], ◌∷◌}
use Rattle.rv_lex.specs.declared.kind.Kind.TheVariants as k
use Rattle.rv_tree.specs.Onto.{Onto, ◌▷◌, kind_onto, nothing_onto, flag_onto, maybe_onto, each_onto, listed_onto}
use Rattle.rv_tree.specs.NamePrint.{identifier_onto, name_onto, end_onto}
use Rattle.rv_tree.specs.ExpressionPrint.{expression_onto, range_onto}
use Rattle.rv_tree.specs.DeclarationPrint.{pragma_onto, parameters_onto, initial_onto, protected_unit_onto, task_onto}
use Rattle.rv_tree.specs.StatementPrint.{statements_onto}
use Rattle.rv_tree.specs.Bodies.{Local, an_object, local_pragma, local_protected_unit, local_task, ExceptionChoice, exception_named, other_exceptions, Handler, Block, OperationBody, function_body, procedure_body, entry_body, ProtectedBody, TaskBody}

abbrev pub local_onto : Local → Onto
local_onto (an_object names is_constant mark range value) = listed_onto k.Comma identifier_onto names ▷ kind_onto k.Colon ▷ flag_onto k.Constant is_constant ▷ name_onto mark ▷ maybe_onto range_onto range ▷ maybe_onto initial_onto value ▷ kind_onto k.Semicolon
local_onto (local_pragma p) = pragma_onto p
local_onto (local_protected_unit u) = protected_unit_onto u
local_onto (local_task t) = task_onto t

abbrev pub exception_choice_onto : ExceptionChoice → Onto
exception_choice_onto (exception_named name) = name_onto name
exception_choice_onto (other_exceptions at) = kind_onto k.Others

abbrev pub handler_onto : Handler → Onto
handler_onto h = kind_onto k.When ▷ listed_onto k.Bar exception_choice_onto h.choices ▷ kind_onto k.Arrow ▷ statements_onto h.statements

abbrev pub handlers_onto : List Handler → Onto
handlers_onto [] = nothing_onto
handlers_onto (h ∷ more) = kind_onto k.Exception ▷ each_onto handler_onto (h ∷ more)

abbrev pub block_onto : Block → Onto
block_onto b = each_onto local_onto b.locals ▷ kind_onto k.Begin ▷ statements_onto b.statements ▷ handlers_onto b.handlers ▷ end_onto b.end_name

abbrev pub operation_body_onto : OperationBody → Onto
operation_body_onto (function_body at name parameters mark block) = kind_onto k.Function ▷ identifier_onto name ▷ parameters_onto parameters ▷ kind_onto k.Return ▷ name_onto mark ▷ kind_onto k.Is ▷ block_onto block
operation_body_onto (procedure_body at name parameters block) = kind_onto k.Procedure ▷ identifier_onto name ▷ parameters_onto parameters ▷ kind_onto k.Is ▷ block_onto block
operation_body_onto (entry_body at name parameters barrier block) = kind_onto k.Entry ▷ identifier_onto name ▷ parameters_onto parameters ▷ kind_onto k.When ▷ expression_onto barrier ▷ kind_onto k.Is ▷ block_onto block

abbrev pub protected_body_onto : ProtectedBody → Onto
protected_body_onto b = kind_onto k.Protected ▷ kind_onto k.Body ▷ identifier_onto b.name ▷ kind_onto k.Is ▷ each_onto operation_body_onto b.operations ▷ end_onto b.end_name

abbrev pub task_body_onto : TaskBody → Onto
task_body_onto b = kind_onto k.Task ▷ kind_onto k.Body ▷ identifier_onto b.name ▷ kind_onto k.Is ▷ block_onto b.block
