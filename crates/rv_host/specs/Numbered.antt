-- Subjects of calls, by number (own).
use Rattle.std.specs.Prelude.{◌≡◌, ℕ, List, [], Option, Some, None, slice_get}
use Rattle.rv_shape.specs.Shape.{Shape}
use Rattle.rv_table.specs.Tables.{callers}

-- the subject of this name has the number, 0 for the home of the lines and else that of its unit; one without a home, which
-- has no name, has none
abbrev pub IsNumber : List Shape → List ℕ → Option ℕ → Type 0
IsNumber shapes name None = name ≡ []
IsNumber shapes name (Some number) = slice_get (callers shapes) number ≡ Some name
