-- Windows of ticks, and when they are open (own).
use Rattle.std.specs.Prelude.{ℕ, Bool, true, ◌&&◌, nat_le, nat_lt, codes, Option, Some, None, IsTrue}
use Rattle.rv_text.specs.Names.{is_same_name}
use Rattle.rv_text.specs.Numbers.{is_natural, read_on}
use Rattle.rv_access.specs.Words.{WindowWords}
use Rattle.rv_access.specs.Limits.{most_tick}

-- the first tick of a window
abbrev pub first_tick : WindowWords → ℕ
first_tick window = read_on 0 window.opening

-- the first tick behind a window
abbrev pub end_tick : WindowWords → ℕ
end_tick window = read_on 0 window.closing

-- a tick is in the window; without a window each tick is
abbrev pub is_open : Option WindowWords → ℕ → Bool
is_open None tick = true
is_open (Some window) tick = nat_le (first_tick window) tick && nat_lt tick (end_tick window)

-- the words around the numbers, case ignored
abbrev pub is_framed : WindowWords → Bool
is_framed window = is_same_name window.from (codes "from") && is_same_name window.until (codes "until")

-- two numbers of 1 to 18 digits, the first below the second, and neither above 10^15
abbrev pub is_window : WindowWords → Bool
is_window window =
    is_natural window.opening && is_natural window.closing
    && nat_lt (first_tick window) (end_tick window) && nat_le (end_tick window) most_tick

-- a window that a text can hold
pub record IsWindow (window : WindowWords) : Type 0 where
  pub framed : IsTrue (is_framed window)
  pub numbers : IsTrue (is_window window)
