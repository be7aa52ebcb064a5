-- How many actors and objects there can be (own).
use Rattle.std.specs.Prelude.{ℕ}

-- the operator, ten lines, and the most tasks
abbrev pub most_actors : ℕ
most_actors = 75

-- number 0, which no object has, and the most objects
abbrev pub most_places : ℕ
most_places = 257
