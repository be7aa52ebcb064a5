-- How many requests of its own the text of a task may make. (own)
use Rattle.std.specs.Prelude.{ℕ, if◌then◌else◌, nat_lt}

-- the number, or 1 in place of none
abbrev pub in_bounds : ℕ → ℕ
in_bounds n = if nat_lt n 1 then 1 else n
