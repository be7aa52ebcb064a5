-- The trees of whole unit texts, without where they lie in memory.
use Rattle.std.specs.Prelude.{ℕ, Bool, List, Option}
use Rattle.rv_tree.specs.Names.{Identifier, Name}
use Rattle.rv_tree.specs.Declarations.{Pragma, Declaration}
use Rattle.rv_tree.specs.Bodies.{ProtectedBody, TaskBody}

pub data ContextItem : Type 0 where
  context_pragma : Pragma → ContextItem
  with_clause : (at : ℕ) → List Name → ContextItem
  use_clause : (at : ℕ) → (is_type : Bool) → List Name → ContextItem

pub record PackageSpecification : Type 0 where
  pub at : ℕ
  pub name : Identifier
  pub declarations : List Declaration
  pub end_name : Option Identifier

pub data BodyItem : Type 0 where
  body_declaration : Declaration → BodyItem
  body_protected : ProtectedBody → BodyItem
  body_task : TaskBody → BodyItem

pub record PackageBody : Type 0 where
  pub at : ℕ
  pub name : Identifier
  pub items : List BodyItem
  pub end_name : Option Identifier

pub record UnitTree : Type 0 where
  pub context : List ContextItem
  pub specification : PackageSpecification
  pub body : PackageBody
