-- What is written of a text when a write fails (own).
use Rattle.std.specs.Prelude.{◌≡◌, ℕ, List, ◌++◌, Option}
use Rattle.std.specs.Io.KnownBytes.{Appends}

-- a prefix of the bytes is written
pub record WritesPrefix (old new : Option (List ℕ)) (bytes : List ℕ) : Type 0 where
  pub prefix : List ℕ
  pub rest : List ℕ
  pub whole : bytes ≡ prefix ++ rest
  pub written : Appends old new prefix
