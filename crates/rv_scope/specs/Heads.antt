-- What the text says of an operation (ISO/IEC 8652:2012, 6.1, 9.4, 9.5.2).
use Rattle.std.specs.Prelude.{List, Option, Some, None}
use Rattle.rv_tree.specs.Names.{Identifier, Name}
use Rattle.rv_tree.specs.Declarations.{Parameter, OperationDeclaration, a_pragma, a_function, a_procedure, an_entry}
use Rattle.rv_scope.specs.declared.declared.OperationKind.{OperationKind}
use Rattle.rv_scope.specs.declared.declared.OperationKind.TheVariants as kind

-- an operation's name and kind, its parameters, and the mark of a function's result
pub record Head : Type 0 where
  pub name : Identifier
  pub kind : OperationKind
  pub parameters : List Parameter
  pub mark : Option Name

-- what its declaration says, if it is none of a pragma
abbrev pub declared_head : OperationDeclaration → Option Head
declared_head (a_pragma pragma) = None
declared_head (a_function at i parameters mark) =
    Some (record { name = i; kind = kind.Function; parameters = parameters; mark = Some mark })
declared_head (a_procedure at i parameters aspects) =
    Some (record { name = i; kind = kind.Procedure; parameters = parameters; mark = None })
declared_head (an_entry entry) =
    Some (record { name = entry.name; kind = kind.Entry; parameters = entry.parameters; mark = None })
