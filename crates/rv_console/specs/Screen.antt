-- What a console keeps. (own)
use Rattle.std.specs.Prelude.{ℕ, Option}

-- the number of the entry that the next page begins with, and how many columns a line may take, if not any number
pub record Screen : Type 0 where
  pub next : ℕ
  pub columns : Option ℕ
