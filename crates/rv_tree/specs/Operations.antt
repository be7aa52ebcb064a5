-- The parts of an operation's declaration and of its body (ISO/IEC 8652:2012, 6.1, 6.3, 9.4, 9.5.2).
use Rattle.std.specs.Prelude.{ℕ, List, Option, Some, None}
use Rattle.rv_tree.specs.Names.{Identifier, Name}
use Rattle.rv_tree.specs.Declarations.{Parameter, OperationDeclaration, a_pragma, a_function, a_procedure, an_entry}
use Rattle.rv_tree.specs.Bodies.{Block, OperationBody, function_body, procedure_body, entry_body}

-- a pragma declares no operation
abbrev pub operation_name : OperationDeclaration → Option Identifier
operation_name (a_pragma p) = None
operation_name (a_function at name parameters mark) = Some name
operation_name (a_procedure at name parameters aspects) = Some name
operation_name (an_entry e) = Some e.name

abbrev pub operation_parameters : OperationDeclaration → Option (List Parameter)
operation_parameters (a_pragma p) = None
operation_parameters (a_function at name parameters mark) = Some parameters
operation_parameters (a_procedure at name parameters aspects) = Some parameters
operation_parameters (an_entry e) = Some e.parameters

-- the mark of a function's result
abbrev pub operation_mark : OperationDeclaration → Option Name
operation_mark (a_function at name parameters mark) = Some mark
operation_mark other = None

abbrev pub operation_place : OperationDeclaration → ℕ
operation_place (a_pragma p) = p.at
operation_place (a_function at name parameters mark) = at
operation_place (a_procedure at name parameters aspects) = at
operation_place (an_entry e) = e.at

abbrev pub operation_body_name : OperationBody → Identifier
operation_body_name (function_body at name parameters mark block) = name
operation_body_name (procedure_body at name parameters block) = name
operation_body_name (entry_body at name parameters barrier block) = name

abbrev pub operation_body_parameters : OperationBody → List Parameter
operation_body_parameters (function_body at name parameters mark block) = parameters
operation_body_parameters (procedure_body at name parameters block) = parameters
operation_body_parameters (entry_body at name parameters barrier block) = parameters

-- the mark of a function's result
abbrev pub operation_body_mark : OperationBody → Option Name
operation_body_mark (function_body at name parameters mark block) = Some mark
operation_body_mark other = None

abbrev pub operation_body_block : OperationBody → Block
operation_body_block (function_body at name parameters mark block) = block
operation_body_block (procedure_body at name parameters block) = block
operation_body_block (entry_body at name parameters barrier block) = block
