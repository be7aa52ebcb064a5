-- The trees of declarations, without where they lie in memory.
use Rattle.std.specs.Prelude.{ℕ, Bool, List, Option}
use Rattle.rv_tree.specs.declared.declaration.Mode.{Mode}
use Rattle.rv_tree.specs.Names.{Identifier, Name}
use Rattle.rv_tree.specs.Expressions.{Expression, RangeConstraint}

pub record PragmaArgument : Type 0 where
  pub name : Option Identifier
  pub value : Expression

pub record Pragma : Type 0 where
  pub at : ℕ
  pub name : Identifier
  pub arguments : List PragmaArgument

pub record Aspect : Type 0 where
  pub name : Identifier
  pub value : Option Expression

pub record Parameter : Type 0 where
  pub names : List Identifier
  pub mode : Mode
  pub mark : Name

pub record EntryDeclaration : Type 0 where
  pub at : ℕ
  pub name : Identifier
  pub parameters : List Parameter

pub data OperationDeclaration : Type 0 where
  a_pragma : Pragma → OperationDeclaration
  a_function : (at : ℕ) → Identifier → List Parameter → Name → OperationDeclaration
  a_procedure : (at : ℕ) → Identifier → List Parameter → List Aspect → OperationDeclaration
  an_entry : EntryDeclaration → OperationDeclaration

pub data ProtectedElement : Type 0 where
  an_operation : OperationDeclaration → ProtectedElement
  a_component : List Identifier → Name → Option RangeConstraint → Option Expression → ProtectedElement

pub record ProtectedUnit : Type 0 where
  pub at : ℕ
  pub is_type : Bool
  pub name : Identifier
  pub aspects : List Aspect
  pub operations : List OperationDeclaration
  pub private : Option (List ProtectedElement)
  pub end_name : Option Identifier

pub data TaskItem : Type 0 where
  task_pragma : Pragma → TaskItem
  task_entry : EntryDeclaration → TaskItem

pub record TaskDefinition : Type 0 where
  pub items : List TaskItem
  pub end_name : Option Identifier

pub record TaskUnit : Type 0 where
  pub at : ℕ
  pub name : Identifier
  pub aspects : List Aspect
  pub definition : Option TaskDefinition

pub data Declaration : Type 0 where
  package_pragma : Pragma → Declaration
  a_subtype : (at : ℕ) → Identifier → Name → Option RangeConstraint → Declaration
  a_protected_unit : ProtectedUnit → Declaration
  a_task : TaskUnit → Declaration
  a_variable : List Identifier → Name → Declaration
  a_constant : List Identifier → Option Name → Expression → Declaration
