-- Unit texts without carriage returns at the ends of their lines (own).
use Rattle.std.specs.Prelude.{ℕ, ◌==◌, List, [], ◌∷◌, ◌++◌}
use Rattle.std.specs.List.{slice_split}
use Rattle.std.specs.Str.Lines.{strip_carriage_return}

-- the parts between line feeds, each that stands before one without the carriage return at its end
abbrev pub joined : List (List ℕ) → List ℕ
joined [] = []
joined (part ∷ []) = part
joined (part ∷ next ∷ parts) = strip_carriage_return part ++ 10 ∷ joined (next ∷ parts)

-- a text without each carriage return that stands before a line feed
abbrev pub without_returns : List ℕ → List ℕ
without_returns text = joined (slice_split (λ byte. byte == 10) text)

-- the greatest length of a unit text, in bytes
abbrev pub most_unit_bytes : ℕ
most_unit_bytes = 262144
