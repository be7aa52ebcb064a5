-- How wide a terminal is (own).
use Rattle.std.specs.Prelude.{ℕ, nat_lt, if◌then◌else◌, List, Option, Some, None}
use Rattle.rv_text.specs.Numbers.{natural_of}

-- as many columns as a number above 0 says
abbrev pub above_zero : Option ℕ → Option ℕ
above_zero None = None
above_zero (Some number) = if nat_lt 0 number then Some number else None

-- as many as a word says, if it is such a number
abbrev pub columns_of : List ℕ → Option ℕ
columns_of word = above_zero (natural_of word)
