-- The spans of ticks between the ends of the windows of a list (own).
use Rattle.std.specs.Prelude.{ℕ, ◌<◌, ◌≤◌, List, ◌∷◌, length, slice_index_or, Option, Some, None}
use Rattle.std.specs.List.{All, AllZip, Contains}
use Rattle.rv_access.specs.Words.{WindowWords, Words}
use Rattle.rv_access.specs.Windows.{first_tick, end_tick}
use Rattle.rv_table.specs.Rows.{IsRow, is_open_at}

-- what contracts see of the spans of a list: the ends of its windows, and the rows of the lines that are open before the
-- first end, and from each end on
pub record SpanMarks : Type 0 where
  pub ends : List ℕ
  pub rows : List (List ℕ)

-- a tick has reached so many of the ends, and no more
pub record IsSpan (ends : List ℕ) (tick count : ℕ) : Type 0 where
  pub few : count ≤ length ends
  pub before : (j : ℕ) → j < count → slice_index_or ends j 0 ≤ tick
  pub behind : (j : ℕ) → count ≤ j → j < length ends → tick < slice_index_or ends j 0

-- the row of the lines that are open at a tick
abbrev pub IsOpenRow : List Words → ℕ → List ℕ → Type 0
IsOpenRow list tick row = IsRow (is_open_at tick) list row

-- both ends of a window, if there is one, are among these
abbrev pub HasEnds : List ℕ → Option WindowWords → Type 0
HasEnds ends None = Unit {0}
HasEnds ends (Some window) = Contains ends (first_tick window) × Contains ends (end_tick window)

-- those of all lines are
abbrev pub AreEnds : List ℕ → List Words → Type 0
AreEnds ends lines = All (λ line. HasEnds ends line.window) lines

-- the spans of a list
pub record IsSpans (list : List Words) (spans : SpanMarks) : Type 0 where
  pub ends : AreEnds spans.ends list
  pub rows : AllZip (IsOpenRow list) (0 ∷ spans.ends) spans.rows
