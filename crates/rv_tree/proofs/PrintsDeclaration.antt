-- A printed declaration is that declaration.
use Rattle.std.proofs.Common.{List, [], ◌∷◌, Option, Some, None, refl}
use Rattle.rv_lex.specs.declared.kind.Kind.TheVariants as k
use Rattle.rv_tree.specs.declared.declaration.Mode.{Mode}
use Rattle.rv_tree.specs.declared.declaration.Mode.TheVariants.{NotWritten, In, Out, InOut}
use Rattle.rv_tree.specs.Names.{Identifier}
use Rattle.rv_tree.specs.Expressions.{Expression, RangeConstraint}
use Rattle.rv_tree.specs.NameGrammar.{IsName}
use Rattle.rv_tree.specs.NamePrint.{name_onto}
use Rattle.rv_tree.specs.ExpressionGrammar.{IsExpression, IsRange}
use Rattle.rv_tree.specs.ExpressionPrint.{expression_onto, range_onto}
use Rattle.rv_tree.specs.Declarations.{Pragma, PragmaArgument, Aspect, Parameter, EntryDeclaration, OperationDeclaration, a_pragma, a_function, a_procedure, an_entry, ProtectedElement, an_operation, a_component, ProtectedUnit, TaskItem, task_pragma, task_entry, TaskDefinition, TaskUnit, Declaration, package_pragma, a_subtype, a_protected_unit, a_task, a_variable, a_constant}
use Rattle.rv_tree.specs.DeclarationGrammar.{IsNamed, IsPragmaArgument, IsPragma, IsGiven, IsInitial, IsAspect, AreAspects, IsMode, IsParameter, AreParameters, IsEntry, IsOperation, IsElement, IsPrivatePart, IsProtectedUnit, IsTaskItem, IsTaskDefinition, IsTask, IsDeclaration}
use Rattle.rv_tree.specs.DeclarationPrint.{named_onto, pragma_argument_onto, pragma_onto, given_onto, initial_onto, aspect_onto, aspects_onto, mode_onto, parameter_onto, parameters_onto, entry_onto, operation_onto, element_onto, private_onto, protected_unit_onto, task_item_onto, task_definition_onto, task_onto, declaration_onto}
use Rattle.rv_tree.proofs.Phrased.{Prints, is_prints, is_at_prints, seq_prints, nothing_prints, flag_prints, maybe_prints, each_prints, after_prints, listed_prints, enclosed_prints}
use Rattle.rv_tree.proofs.PrintsName.{identifier_prints, name_prints, identifiers_print, end_prints}
use Rattle.rv_tree.proofs.PrintsExpression.{expression_prints, range_prints}

named_prints : (name : Identifier) → Prints (IsNamed name) (named_onto name)
named_prints name = seq_prints (identifier_prints name) (is_prints k.Arrow refl)

pragma_argument_prints : (a : PragmaArgument) → Prints (IsPragmaArgument a) (pragma_argument_onto a)
pragma_argument_prints a = seq_prints (maybe_prints IsNamed named_onto named_prints a.name) (expression_prints a.value)

pub pragma_prints : (p : Pragma) → Prints (IsPragma p) (pragma_onto p)
pragma_prints p = seq_prints (is_at_prints k.Pragma p.at refl) (seq_prints (identifier_prints p.name) (seq_prints (enclosed_prints k.LeftParenthesis k.Comma k.RightParenthesis IsPragmaArgument pragma_argument_onto refl refl refl pragma_argument_prints p.arguments) (is_prints k.Semicolon refl)))

given_prints : (e : Expression) → Prints (IsGiven e) (given_onto e)
given_prints e = after_prints k.Arrow IsExpression expression_onto refl expression_prints e

pub initial_prints : (e : Expression) → Prints (IsInitial e) (initial_onto e)
initial_prints e = after_prints k.Becomes IsExpression expression_onto refl expression_prints e

pub maybe_initial_prints : (o : Option Expression) → Prints (Rattle.rv_tree.specs.Phrases.Maybe IsInitial o) (Rattle.rv_tree.specs.Onto.maybe_onto initial_onto o)
maybe_initial_prints o = maybe_prints IsInitial initial_onto initial_prints o

pub maybe_range_prints : (o : Option RangeConstraint) → Prints (Rattle.rv_tree.specs.Phrases.Maybe IsRange o) (Rattle.rv_tree.specs.Onto.maybe_onto range_onto o)
maybe_range_prints o = maybe_prints IsRange range_onto range_prints o

aspect_prints : (a : Aspect) → Prints (IsAspect a) (aspect_onto a)
aspect_prints a = seq_prints (identifier_prints a.name) (maybe_prints IsGiven given_onto given_prints a.value)

aspects_print : (xs : List Aspect) → Prints (AreAspects xs) (aspects_onto xs)
aspects_print [] = nothing_prints
aspects_print (a ∷ more) = seq_prints (is_prints k.With refl) (listed_prints k.Comma IsAspect aspect_onto refl aspect_prints (a ∷ more))

mode_prints : (m : Mode) → Prints (IsMode m) (mode_onto m)
mode_prints NotWritten = nothing_prints
mode_prints In = is_prints k.In refl
mode_prints Out = is_prints k.Out refl
mode_prints InOut = seq_prints (is_prints k.In refl) (is_prints k.Out refl)

parameter_prints : (p : Parameter) → Prints (IsParameter p) (parameter_onto p)
parameter_prints p = seq_prints (identifiers_print p.names) (seq_prints (is_prints k.Colon refl) (seq_prints (mode_prints p.mode) (name_prints p.mark)))

pub parameters_print : (ps : List Parameter) → Prints (AreParameters ps) (parameters_onto ps)
parameters_print ps = enclosed_prints k.LeftParenthesis k.Semicolon k.RightParenthesis IsParameter parameter_onto refl refl refl parameter_prints ps

entry_prints : (e : EntryDeclaration) → Prints (IsEntry e) (entry_onto e)
entry_prints e = seq_prints (is_at_prints k.Entry e.at refl) (seq_prints (identifier_prints e.name) (seq_prints (parameters_print e.parameters) (is_prints k.Semicolon refl)))

operation_prints : (o : OperationDeclaration) → Prints (IsOperation o) (operation_onto o)
operation_prints (a_pragma p) = pragma_prints p
operation_prints (a_function at name parameters mark) = seq_prints (is_at_prints k.Function at refl) (seq_prints (identifier_prints name) (seq_prints (parameters_print parameters) (seq_prints (is_prints k.Return refl) (seq_prints (name_prints mark) (is_prints k.Semicolon refl)))))
operation_prints (a_procedure at name parameters aspects) = seq_prints (is_at_prints k.Procedure at refl) (seq_prints (identifier_prints name) (seq_prints (parameters_print parameters) (seq_prints (aspects_print aspects) (is_prints k.Semicolon refl))))
operation_prints (an_entry e) = entry_prints e

element_prints : (e : ProtectedElement) → Prints (IsElement e) (element_onto e)
element_prints (an_operation o) = operation_prints o
element_prints (a_component names mark range value) = seq_prints (identifiers_print names) (seq_prints (is_prints k.Colon refl) (seq_prints (name_prints mark) (seq_prints (maybe_range_prints range) (seq_prints (maybe_initial_prints value) (is_prints k.Semicolon refl)))))

private_prints : (elements : List ProtectedElement) → Prints (IsPrivatePart elements) (private_onto elements)
private_prints elements = seq_prints (is_prints k.Private refl) (each_prints IsElement element_onto element_prints elements)

pub protected_unit_prints : (u : ProtectedUnit) → Prints (IsProtectedUnit u) (protected_unit_onto u)
protected_unit_prints u = seq_prints (is_at_prints k.Protected u.at refl) (seq_prints (flag_prints k.Type u.is_type refl) (seq_prints (identifier_prints u.name) (seq_prints (aspects_print u.aspects) (seq_prints (is_prints k.Is refl) (seq_prints (each_prints IsOperation operation_onto operation_prints u.operations) (seq_prints (maybe_prints IsPrivatePart private_onto private_prints u.private) (end_prints u.end_name)))))))

task_item_prints : (i : TaskItem) → Prints (IsTaskItem i) (task_item_onto i)
task_item_prints (task_pragma p) = pragma_prints p
task_item_prints (task_entry e) = entry_prints e

task_definition_prints : (d : Option TaskDefinition) → Prints (IsTaskDefinition d) (task_definition_onto d)
task_definition_prints None = is_prints k.Semicolon refl
task_definition_prints (Some d) = seq_prints (is_prints k.Is refl) (seq_prints (each_prints IsTaskItem task_item_onto task_item_prints d.items) (end_prints d.end_name))

pub task_prints : (t : TaskUnit) → Prints (IsTask t) (task_onto t)
task_prints t = seq_prints (is_at_prints k.Task t.at refl) (seq_prints (identifier_prints t.name) (seq_prints (aspects_print t.aspects) (task_definition_prints t.definition)))

pub declaration_prints : (d : Declaration) → Prints (IsDeclaration d) (declaration_onto d)
declaration_prints (package_pragma p) = pragma_prints p
declaration_prints (a_subtype at name mark range) = seq_prints (is_at_prints k.Subtype at refl) (seq_prints (identifier_prints name) (seq_prints (is_prints k.Is refl) (seq_prints (name_prints mark) (seq_prints (maybe_range_prints range) (is_prints k.Semicolon refl)))))
declaration_prints (a_protected_unit u) = protected_unit_prints u
declaration_prints (a_task t) = task_prints t
declaration_prints (a_variable names mark) = seq_prints (identifiers_print names) (seq_prints (is_prints k.Colon refl) (seq_prints (name_prints mark) (is_prints k.Semicolon refl)))
declaration_prints (a_constant names mark value) = seq_prints (identifiers_print names) (seq_prints (is_prints k.Colon refl) (seq_prints (is_prints k.Constant refl) (seq_prints (maybe_prints IsName name_onto name_prints mark) (seq_prints (initial_prints value) (is_prints k.Semicolon refl)))))
