-- Changes of one line of a list (own). Lines are numbered from 1.
use Rattle.std.specs.Prelude.{ℕ, ◌≡◌, ◌<◌, ◌≤◌, ◌+◌, ◌-◌, Bool, List, Option, Some, None, IfSome}
use Rattle.rv_access.specs.Changes.{appended, removed, replaced}
use Rattle.rv_access.specs.Limits.{most_lines}
use Rattle.rv_access.specs.Words.{Words}
use Rattle.rv_table.specs.declared.edit.Edit.{Edit}
use Rattle.rv_table.specs.declared.edit.Edit.TheVariants.{Append, Remove, Replace}

-- the list after an edit
abbrev pub edited : Edit → List Words → List Words
edited (Append line) lines = appended lines line.now
edited (Remove number) lines = removed lines number
edited (Replace number line) lines = replaced lines number line.now

-- there is a line of a number in a list of so many lines
pub record HasLine (number lines : ℕ) : Type 0 where
  pub counted : 0 < number
  pub there : number ≤ lines
  pub few : lines ≤ most_lines

-- an edit can be made of a list of so many lines: the line of its number is there, or there is room for a line more; and
-- the line that it brings has no window
abbrev pub CanEdit : Edit → ℕ → Type 0
CanEdit (Append line) lines = (lines < most_lines) × (line.now.window ≡ None)
CanEdit (Remove number) lines = HasLine number lines
CanEdit (Replace number line) lines = HasLine number lines × (line.now.window ≡ None)

-- the line that an edit brings, if it brings one
abbrev pub brought : Edit → Option Words
brought (Append line) = Some line.now
brought (Remove number) = None
brought (Replace number line) = Some line.now

-- whether that line passes a test
abbrev pub Brings : Edit → (Words → Bool) → Bool → Type 0
Brings edit passes is_passed = IfSome (brought edit) (λ line. is_passed ≡ passes line)

-- how many lines there are after an edit of so many
abbrev pub lines_after : Edit → ℕ → ℕ
lines_after (Append line) lines = lines + 1
lines_after (Remove number) lines = lines - 1
lines_after (Replace number line) lines = lines
