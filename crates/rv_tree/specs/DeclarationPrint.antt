-- How declarations are printed.
use Rattle.std.specs.Prelude.{List, [], ◌∷◌, Option, Some, None}
use Rattle.rv_lex.specs.declared.kind.Kind.TheVariants as k
use Rattle.rv_tree.specs.declared.declaration.Mode.{Mode}
use Rattle.rv_tree.specs.declared.declaration.Mode.TheVariants.{NotWritten, In, Out, InOut}
use Rattle.rv_tree.specs.Onto.{Onto, ◌▷◌, kind_onto, nothing_onto, flag_onto, maybe_onto, each_onto, after_onto, listed_onto, enclosed_onto}
use Rattle.rv_tree.specs.Names.{Identifier}
use Rattle.rv_tree.specs.NamePrint.{identifier_onto, name_onto, end_onto}
use Rattle.rv_tree.specs.Expressions.{Expression}
use Rattle.rv_tree.specs.ExpressionPrint.{expression_onto, range_onto}
use Rattle.rv_tree.specs.Declarations.{Pragma, PragmaArgument, Aspect, Parameter, EntryDeclaration, OperationDeclaration, a_pragma, a_function, a_procedure, an_entry, ProtectedElement, an_operation, a_component, ProtectedUnit, TaskItem, task_pragma, task_entry, TaskDefinition, TaskUnit, Declaration, package_pragma, a_subtype, a_protected_unit, a_task, a_variable, a_constant}

abbrev pub named_onto : Identifier → Onto
named_onto name = identifier_onto name ▷ kind_onto k.Arrow

abbrev pub pragma_argument_onto : PragmaArgument → Onto
pragma_argument_onto a = maybe_onto named_onto a.name ▷ expression_onto a.value

abbrev pub pragma_onto : Pragma → Onto
pragma_onto p = kind_onto k.Pragma ▷ identifier_onto p.name ▷ enclosed_onto k.LeftParenthesis k.Comma k.RightParenthesis pragma_argument_onto p.arguments ▷ kind_onto k.Semicolon

abbrev pub given_onto : Expression → Onto
given_onto = after_onto k.Arrow expression_onto

abbrev pub initial_onto : Expression → Onto
initial_onto = after_onto k.Becomes expression_onto

abbrev pub aspect_onto : Aspect → Onto
aspect_onto a = identifier_onto a.name ▷ maybe_onto given_onto a.value

abbrev pub aspects_onto : List Aspect → Onto
aspects_onto [] = nothing_onto
aspects_onto (a ∷ more) = kind_onto k.With ▷ listed_onto k.Comma aspect_onto (a ∷ more)

abbrev pub mode_onto : Mode → Onto
mode_onto NotWritten = nothing_onto
mode_onto In = kind_onto k.In
mode_onto Out = kind_onto k.Out
mode_onto InOut = kind_onto k.In ▷ kind_onto k.Out

abbrev pub parameter_onto : Parameter → Onto
parameter_onto p = listed_onto k.Comma identifier_onto p.names ▷ kind_onto k.Colon ▷ mode_onto p.mode ▷ name_onto p.mark

abbrev pub parameters_onto : List Parameter → Onto
parameters_onto = enclosed_onto k.LeftParenthesis k.Semicolon k.RightParenthesis parameter_onto

abbrev pub entry_onto : EntryDeclaration → Onto
entry_onto e = kind_onto k.Entry ▷ identifier_onto e.name ▷ parameters_onto e.parameters ▷ kind_onto k.Semicolon

abbrev pub operation_onto : OperationDeclaration → Onto
operation_onto (a_pragma p) = pragma_onto p
operation_onto (a_function at name parameters mark) = kind_onto k.Function ▷ identifier_onto name ▷ parameters_onto parameters ▷ kind_onto k.Return ▷ name_onto mark ▷ kind_onto k.Semicolon
operation_onto (a_procedure at name parameters aspects) = kind_onto k.Procedure ▷ identifier_onto name ▷ parameters_onto parameters ▷ aspects_onto aspects ▷ kind_onto k.Semicolon
operation_onto (an_entry e) = entry_onto e

abbrev pub element_onto : ProtectedElement → Onto
element_onto (an_operation o) = operation_onto o
element_onto (a_component names mark range value) = listed_onto k.Comma identifier_onto names ▷ kind_onto k.Colon ▷ name_onto mark ▷ maybe_onto range_onto range ▷ maybe_onto initial_onto value ▷ kind_onto k.Semicolon

abbrev pub private_onto : List ProtectedElement → Onto
private_onto elements = kind_onto k.Private ▷ each_onto element_onto elements

abbrev pub protected_unit_onto : ProtectedUnit → Onto
protected_unit_onto u = kind_onto k.Protected ▷ flag_onto k.Type u.is_type ▷ identifier_onto u.name ▷ aspects_onto u.aspects ▷ kind_onto k.Is ▷ each_onto operation_onto u.operations ▷ maybe_onto private_onto u.private ▷ end_onto u.end_name

abbrev pub task_item_onto : TaskItem → Onto
task_item_onto (task_pragma p) = pragma_onto p
task_item_onto (task_entry e) = entry_onto e

abbrev pub task_definition_onto : Option TaskDefinition → Onto
task_definition_onto None = kind_onto k.Semicolon
task_definition_onto (Some d) = kind_onto k.Is ▷ each_onto task_item_onto d.items ▷ end_onto d.end_name

abbrev pub task_onto : TaskUnit → Onto
task_onto t = kind_onto k.Task ▷ identifier_onto t.name ▷ aspects_onto t.aspects ▷ task_definition_onto t.definition

abbrev pub declaration_onto : Declaration → Onto
declaration_onto (package_pragma p) = pragma_onto p
declaration_onto (a_subtype at name mark range) = kind_onto k.Subtype ▷ identifier_onto name ▷ kind_onto k.Is ▷ name_onto mark ▷ maybe_onto range_onto range ▷ kind_onto k.Semicolon
declaration_onto (a_protected_unit u) = protected_unit_onto u
declaration_onto (a_task t) = task_onto t
declaration_onto (a_variable names mark) = listed_onto k.Comma identifier_onto names ▷ kind_onto k.Colon ▷ name_onto mark ▷ kind_onto k.Semicolon
declaration_onto (a_constant names mark value) = listed_onto k.Comma identifier_onto names ▷ kind_onto k.Colon ▷ kind_onto k.Constant ▷ maybe_onto name_onto mark ▷ initial_onto value ▷ kind_onto k.Semicolon
