-- The declarations that values of the code stand for.
use Rattle.std.specs.Prelude.{map, Option, Some, None}
use Rattle.rv_tree.specs.Declarations as t
use Rattle.rv_tree.specs.NameView.{identifier_view, identifiers_view, name_view}
use Rattle.rv_tree.specs.ExpressionView.{expression_view, range_view}
use Rattle.rv_tree.specs.declared.declaration.PragmaArgument.{PragmaArgument}
use Rattle.rv_tree.specs.declared.declaration.Pragma.{Pragma}
use Rattle.rv_tree.specs.declared.declaration.Aspect.{Aspect}
use Rattle.rv_tree.specs.declared.declaration.Parameter.{Parameter}
use Rattle.rv_tree.specs.declared.declaration.EntryDeclaration.{EntryDeclaration}
use Rattle.rv_tree.specs.declared.declaration.OperationDeclaration.{OperationDeclaration}
use Rattle.rv_tree.specs.declared.declaration.OperationDeclaration.TheVariants as operation
use Rattle.rv_tree.specs.declared.declaration.ProtectedElement.{ProtectedElement}
use Rattle.rv_tree.specs.declared.declaration.ProtectedElement.TheVariants as element
use Rattle.rv_tree.specs.declared.declaration.ProtectedUnit.{ProtectedUnit}
use Rattle.rv_tree.specs.declared.declaration.TaskItem.{TaskItem}
use Rattle.rv_tree.specs.declared.declaration.TaskItem.TheVariants as item
use Rattle.rv_tree.specs.declared.declaration.TaskDefinition.{TaskDefinition}
use Rattle.rv_tree.specs.declared.declaration.TaskUnit.{TaskUnit}
use Rattle.rv_tree.specs.declared.declaration.Declaration.{Declaration}
use Rattle.rv_tree.specs.declared.declaration.Declaration.TheVariants as declaration

-- what an optional part stands for
abbrev pub maybe : {A B : Type 0} → (A → B) → Option A → Option B
maybe view None = None
maybe view (Some a) = Some (view a)

abbrev pub pragma_argument_view : PragmaArgument → t.PragmaArgument
pragma_argument_view a = record { name = maybe identifier_view a.name; value = expression_view a.value }

abbrev pub pragma_view : Pragma → t.Pragma
pragma_view p = record { at = p.at; name = identifier_view p.name; arguments = map pragma_argument_view p.arguments.items }

abbrev pub aspect_view : Aspect → t.Aspect
aspect_view a = record { name = identifier_view a.name; value = maybe expression_view a.value }

abbrev pub parameter_view : Parameter → t.Parameter
parameter_view p = record { names = identifiers_view p.names.items; mode = p.mode; mark = name_view p.mark }

abbrev pub entry_view : EntryDeclaration → t.EntryDeclaration
entry_view e = record { at = e.at; name = identifier_view e.name; parameters = map parameter_view e.parameters.items }

abbrev pub operation_view : OperationDeclaration → t.OperationDeclaration
operation_view (operation.Pragma p) = t.a_pragma (pragma_view p)
operation_view (operation.Function at name parameters mark) = t.a_function at (identifier_view name) (map parameter_view parameters.items) (name_view mark)
operation_view (operation.Procedure at name parameters aspects) = t.a_procedure at (identifier_view name) (map parameter_view parameters.items) (map aspect_view aspects.items)
operation_view (operation.Entry e) = t.an_entry (entry_view e)

abbrev pub element_view : ProtectedElement → t.ProtectedElement
element_view (element.Operation o) = t.an_operation (operation_view o)
element_view (element.Component names mark range value) = t.a_component (identifiers_view names.items) (name_view mark) (maybe range_view range) (maybe expression_view value)

abbrev pub protected_unit_view : ProtectedUnit → t.ProtectedUnit
protected_unit_view u = record {
  at = u.at;
  is_type = u.is_type;
  name = identifier_view u.name;
  aspects = map aspect_view u.aspects.items;
  operations = map operation_view u.operations.items;
  private = maybe (λ v. map element_view v.items) u.private;
  end_name = maybe identifier_view u.end_name;
}

abbrev pub task_item_view : TaskItem → t.TaskItem
task_item_view (item.Pragma p) = t.task_pragma (pragma_view p)
task_item_view (item.Entry e) = t.task_entry (entry_view e)

abbrev pub task_definition_view : TaskDefinition → t.TaskDefinition
task_definition_view d = record { items = map task_item_view d.items.items; end_name = maybe identifier_view d.end_name }

abbrev pub task_view : TaskUnit → t.TaskUnit
task_view u = record { at = u.at; name = identifier_view u.name; aspects = map aspect_view u.aspects.items; definition = maybe task_definition_view u.definition }

abbrev pub declaration_view : Declaration → t.Declaration
declaration_view (declaration.Pragma p) = t.package_pragma (pragma_view p)
declaration_view (declaration.Subtype at name mark range) = t.a_subtype at (identifier_view name) (name_view mark) (maybe range_view range)
declaration_view (declaration.Protected u) = t.a_protected_unit (protected_unit_view u)
declaration_view (declaration.Task u) = t.a_task (task_view u)
declaration_view (declaration.Variable names mark) = t.a_variable (identifiers_view names.items) (name_view mark)
declaration_view (declaration.Constant names mark value) = t.a_constant (identifiers_view names.items) (maybe name_view mark) (expression_view value)
