-- Lines that decide nothing: later lines cover them, or their window has ended (own).
use Rattle.std.specs.Prelude.{◌≡◌, ℕ, Bool, true, false, ◌&&◌, nat_le, nat_lt, List, Option, Some, None}
use Rattle.std.specs.List.{list_any}
use Rattle.rv_access.specs.Words.{WindowWords, Words}
use Rattle.rv_access.specs.Lines.{decides, fits}
use Rattle.rv_access.specs.Windows.{end_tick, is_open}

-- the line of this number decides no call, whatever the names of its caller, its object and its operation, at any tick
abbrev pub DecidesNothing : List Words → ℕ → Type 0
DecidesNothing list number = (unit object operation : List ℕ) (tick : ℕ) → decides list unit object operation tick ≡ number → ⊥

-- each word of the first line fits whatever that of the other fits
abbrev pub is_wider : Words → Words → Bool
is_wider wide line = fits wide.unit line.unit && fits wide.object line.object && fits wide.operation line.operation

-- among these lines is a wider one whose window is open at a tick
abbrev pub is_spanned_at : List Words → Words → ℕ → Bool
is_spanned_at lines line tick = list_any (λ wide. is_wider wide line && is_open wide.window tick) lines

-- at each tick at which the line's window is open
abbrev pub IsSpanned : List Words → Words → Type 0
IsSpanned lines line = (tick : ℕ) → is_open line.window tick ≡ true → is_spanned_at lines line tick ≡ true

-- a window has ended at a tick
abbrev pub has_ended : Option WindowWords → ℕ → Bool
has_ended None tick = false
has_ended (Some window) tick = nat_le (end_tick window) tick

-- a span of ticks: the first, and the first behind it
abbrev pub Span : Type 0
Span = ℕ × ℕ

abbrev pub is_in : ℕ → Span → Bool
is_in tick span = nat_le span.0 tick && nat_lt tick span.1

-- a tick is in one of these spans
abbrev pub is_held : List Span → ℕ → Bool
is_held spans tick = list_any (is_in tick) spans

-- so is each tick from one on and before another
abbrev pub AreHeld : List Span → ℕ → ℕ → Type 0
AreHeld spans first end = (tick : ℕ) → nat_le first tick ≡ true → nat_lt tick end ≡ true → is_held spans tick ≡ true
