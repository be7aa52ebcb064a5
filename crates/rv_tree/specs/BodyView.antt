-- The bodies that values of the code stand for.
use Rattle.std.specs.Prelude.{map}
use Rattle.rv_tree.specs.Bodies as t
use Rattle.rv_tree.specs.Statements.{statements_of}
use Rattle.rv_tree.specs.NameView.{identifier_view, identifiers_view, name_view}
use Rattle.rv_tree.specs.ExpressionView.{expression_view, range_view}
use Rattle.rv_tree.specs.DeclarationView.{maybe, pragma_view, parameter_view, protected_unit_view, task_view}
use Rattle.rv_tree.specs.StatementView.{statements_view}
use Rattle.rv_tree.specs.declared.body.Local.{Local}
use Rattle.rv_tree.specs.declared.body.Local.TheVariants as local
use Rattle.rv_tree.specs.declared.body.ExceptionChoice.{ExceptionChoice}
use Rattle.rv_tree.specs.declared.body.ExceptionChoice.TheVariants as choice
use Rattle.rv_tree.specs.declared.body.Handler.{Handler}
use Rattle.rv_tree.specs.declared.body.Block.{Block}
use Rattle.rv_tree.specs.declared.body.OperationBody.{OperationBody}
use Rattle.rv_tree.specs.declared.body.OperationBody.TheVariants as body
use Rattle.rv_tree.specs.declared.body.ProtectedBody.{ProtectedBody}
use Rattle.rv_tree.specs.declared.body.TaskBody.{TaskBody}

abbrev pub local_view : Local → t.Local
local_view (local.Object names is_constant mark range value) = t.an_object (identifiers_view names.items) is_constant (name_view mark) (maybe range_view range) (maybe expression_view value)
local_view (local.Pragma p) = t.local_pragma (pragma_view p)
local_view (local.Protected u) = t.local_protected_unit (protected_unit_view u)
local_view (local.Task u) = t.local_task (task_view u)

abbrev pub exception_choice_view : ExceptionChoice → t.ExceptionChoice
exception_choice_view (choice.Name name) = t.exception_named (name_view name)
exception_choice_view (choice.Others at) = t.other_exceptions at

abbrev pub handler_view : Handler → t.Handler
handler_view h = record { at = h.at; choices = map exception_choice_view h.choices.items; statements = statements_of (statements_view h.statements.items) }

abbrev pub block_view : Block → t.Block
block_view b = record {
  locals = map local_view b.locals.items;
  statements = statements_of (statements_view b.statements.items);
  handlers = map handler_view b.handlers.items;
  end_name = maybe identifier_view b.end_name;
}

abbrev pub operation_body_view : OperationBody → t.OperationBody
operation_body_view (body.Function at name parameters mark block) = t.function_body at (identifier_view name) (map parameter_view parameters.items) (name_view mark) (block_view block)
operation_body_view (body.Procedure at name parameters block) = t.procedure_body at (identifier_view name) (map parameter_view parameters.items) (block_view block)
operation_body_view (body.Entry at name parameters barrier block) = t.entry_body at (identifier_view name) (map parameter_view parameters.items) (expression_view barrier) (block_view block)

abbrev pub protected_body_view : ProtectedBody → t.ProtectedBody
protected_body_view b = record { at = b.at; name = identifier_view b.name; operations = map operation_body_view b.operations.items; end_name = maybe identifier_view b.end_name }

abbrev pub task_body_view : TaskBody → t.TaskBody
task_body_view b = record { at = b.at; name = identifier_view b.name; block = block_view b.block }
