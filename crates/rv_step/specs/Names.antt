-- The names that steps have (own).
use Rattle.std.specs.Prelude.{ℕ, List}

-- `Unit.Name`, in its two parts
pub record DottedWord : Type 0 where
  pub unit : List ℕ
  pub name : List ℕ
