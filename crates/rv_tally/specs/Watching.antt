-- What contracts see of a guard (own).
use Rattle.std.specs.Prelude.{ℕ, Bool, Option}
use Rattle.rv_tally.specs.declared.guard.Level.{Level}

pub record Watch : Type 0 where
  -- the room below which the run ends
  pub halt_below : Option ℕ
  -- whether the room left is told
  pub tells : Bool
  -- at which level it was told last
  pub told : Level
