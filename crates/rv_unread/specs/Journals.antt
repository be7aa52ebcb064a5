-- The lines of a script that open a journal (own).
use Rattle.std.specs.Prelude.{ℕ, Bool, true, false, List, Option, Some, None}
use Rattle.rv_script.specs.Openings.{opening_of}
use Rattle.rv_script.specs.declared.opening.Opening.{Opening}
use Rattle.rv_script.specs.declared.opening.Opening.TheVariants as Openings

abbrev pub is_journal : Option Opening → Bool
is_journal (Some Openings.Journal) = true
is_journal (Some Openings.Settings) = false
is_journal (Some Openings.UnitText) = false
is_journal (Some Openings.Shape) = false
is_journal (Some Openings.AccessList) = false
is_journal (Some Openings.Steps) = false
is_journal (Some Openings.Run) = false
is_journal None = false

-- the line, without its line feed and a carriage return before that, opens a journal
abbrev pub opens_journal : List ℕ → Bool
opens_journal line = is_journal (opening_of line)
