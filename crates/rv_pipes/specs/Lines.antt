-- The lines of a pipe (own).
use Rattle.std.specs.Prelude.{◌≡◌, ◌-◌, ℕ, List, [], ◌∷◌, length, take, drop}
use Rattle.std.specs.Io.{StopsAt}
use Rattle.std.specs.Io.BufRead.{take_through}

-- a line: bytes of which the last is a line feed, and no other
abbrev pub IsLine : List ℕ → Type 0
IsLine line = StopsAt line 10 × (drop (length line - 1) line ≡ 10 ∷ [])

-- the first of the bytes that a reader has left: through a line feed, and no more than a line may have
abbrev pub next_bytes : List ℕ → List ℕ
next_bytes left = take_through 10 (take 4096 left)
