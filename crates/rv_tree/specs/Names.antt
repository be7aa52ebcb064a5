-- Identifiers and names, without where they lie in memory.
use Rattle.std.specs.Prelude.{ℕ, List}

pub record Identifier : Type 0 where
  pub at : ℕ
  pub text : List ℕ

pub record Name : Type 0 where
  pub first : Identifier
  pub more : List Identifier
