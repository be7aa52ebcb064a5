-- Ticks that follow a real clock; a tick is a millisecond. (own)
use Rattle.std.specs.Prelude.{ℕ, ◌≤◌, ◌*◌, ◌/◌, ◌%◌, ◌-◌}

-- a period, in milliseconds: at most an hour
abbrev pub IsPeriod : ℕ → Type 0
IsPeriod period = (1 ≤ period) × (period ≤ 3_600_000)

-- When it starts, in nanoseconds of the clock that is followed; its period; and how many ticks were asked since.
pub record Pacing : Type 0 where
  pub start : ℕ
  pub period : ℕ
  pub asked : ℕ

-- the ticks that are due at a moment: the milliseconds of the whole periods that went by
abbrev pub due : Pacing → ℕ → ℕ
due p now = (now - p.start) / 1_000_000 / p.period * p.period

-- those of them that weren't asked
abbrev pub missed : Pacing → ℕ → ℕ
missed p now = due p now - p.asked

-- how many nanoseconds are left of the period that goes by
abbrev pub pause : Pacing → ℕ → ℕ
pause p now = p.period * 1_000_000 - (now - p.start) % (p.period * 1_000_000)
