-- Compiled bodies, without where they lie in memory.
use Rattle.std.specs.Prelude.{ℕ, ◌+◌, suc, Bool, List, [], ◌∷◌, length, replicate, Option, None}
use Rattle.rv_shape.specs.Shape.{Shape}
use Rattle.rv_shape.specs.declared.kind.Parameter.{Parameter}
use Rattle.rv_code.specs.declared.body.ExceptionChoice.{ExceptionChoice}
use Rattle.rv_code.specs.declared.statement.Target.{Target}
use Rattle.rv_code.specs.Expressions.{Expression, size}
use Rattle.rv_code.specs.Statements.{Statements, statements_size}

pub record Declaration : Type 0 where
  pub target : Target
  pub initial : Expression

pub record Handler : Type 0 where
  pub choices : List ExceptionChoice
  pub statements : Statements

pub record Body : Type 0 where
  pub parameters : List Parameter
  pub is_function : Bool
  pub declarations : List Declaration
  pub statements : Statements
  pub handlers : List Handler

pub record UnitBodies : Type 0 where
  -- of each object the bodies of its operations
  pub objects : List (List Body)
  pub tasks : List (Option Body)

-- so many objects and tasks, none with a body (own)
abbrev pub bodiless : ℕ → ℕ → UnitBodies
bodiless objects tasks = record { objects = replicate objects []; tasks = replicate tasks None }

-- those of a unit that is a shape alone (own)
abbrev pub without_bodies : Shape → UnitBodies
without_bodies shape = bodiless (length shape.objects) (length shape.tasks)

-- how many nodes it has: a measure of what is left to run (own)
abbrev pub declarations_size : List Declaration → ℕ
declarations_size [] = 0
declarations_size (d ∷ ds) = suc (size d.initial + declarations_size ds)

abbrev pub handlers_size : List Handler → ℕ
handlers_size [] = 0
handlers_size (h ∷ hs) = statements_size h.statements + handlers_size hs

abbrev pub body_size : Body → ℕ
body_size b = suc (declarations_size b.declarations + statements_size b.statements + handlers_size b.handlers)
