-- The trees of bodies, without where they lie in memory.
use Rattle.std.specs.Prelude.{ℕ, Bool, List, Option}
use Rattle.rv_tree.specs.Names.{Identifier, Name}
use Rattle.rv_tree.specs.Expressions.{Expression, RangeConstraint}
use Rattle.rv_tree.specs.Declarations.{Pragma, Parameter, ProtectedUnit, TaskUnit}
use Rattle.rv_tree.specs.Statements.{Statements}

pub data Local : Type 0 where
  an_object : List Identifier → (is_constant : Bool) → Name → Option RangeConstraint → Option Expression → Local
  local_pragma : Pragma → Local
  local_protected_unit : ProtectedUnit → Local
  local_task : TaskUnit → Local

pub data ExceptionChoice : Type 0 where
  exception_named : Name → ExceptionChoice
  other_exceptions : (at : ℕ) → ExceptionChoice

pub record Handler : Type 0 where
  pub at : ℕ
  pub choices : List ExceptionChoice
  pub statements : Statements

pub record Block : Type 0 where
  pub locals : List Local
  pub statements : Statements
  pub handlers : List Handler
  pub end_name : Option Identifier

pub data OperationBody : Type 0 where
  function_body : (at : ℕ) → Identifier → List Parameter → Name → Block → OperationBody
  procedure_body : (at : ℕ) → Identifier → List Parameter → Block → OperationBody
  entry_body : (at : ℕ) → Identifier → List Parameter → Expression → Block → OperationBody

pub record ProtectedBody : Type 0 where
  pub at : ℕ
  pub name : Identifier
  pub operations : List OperationBody
  pub end_name : Option Identifier

pub record TaskBody : Type 0 where
  pub at : ℕ
  pub name : Identifier
  pub block : Block
