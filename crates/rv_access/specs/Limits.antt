-- The limits of access lists (own).
use Rattle.std.specs.Prelude.{ℕ}

-- the most lines of a list
abbrev pub most_lines : ℕ
most_lines = 512

-- the greatest tick that a window names, 10^15
abbrev pub most_tick : ℕ
most_tick = 1000000000000000
