-- Rows of marks: a bit for each line of a list, the last line first (own).
use Rattle.std.specs.Prelude.{ℕ, ◌≡◌, ◌<◌, ◌≤◌, ◌+◌, ◌-◌, ◌*◌, ◌==◌, nat_lt, if◌then◌else◌, Bool, true, false, ◌&&◌, length, List, ◌/◌, ◌%◌, slice_index_or, bit_and}
use Rattle.std.specs.Int.{bit_at}
use Rattle.rv_access.specs.Words.{Words}
use Rattle.rv_access.specs.Windows.{is_open}
use Rattle.rv_access.specs.Lines.{fits}

-- 1 where a place is marked, else 0
abbrev pub has : List ℕ → ℕ → ℕ
has words place = bit_at (slice_index_or words (place / 64) 0) (place % 64)

-- the lowest place that is marked in both words
pub record Lowest (ours theirs place : ℕ) : Type 0 where
  pub small : place < 64
  pub mine : bit_at ours place ≡ 1
  pub yours : bit_at theirs place ≡ 1
  pub none : (lower : ℕ) → lower < place → bit_at (bit_and ours theirs) lower ≡ 0

-- a mark for a line that passes
abbrev pub one : Bool → ℕ
one true = 1
one false = 0

-- the marks of the lines that pass a test, the last line first
pub record IsRow (passes : Words → Bool) (list : List Words) (words : List ℕ) : Type 0 where
  pub lines : (d : Words) (i : ℕ) → i < length list → has words (length list - 1 - i) ≡ one (passes (slice_index_or list i d))
  pub behind : (j : ℕ) → length list ≤ j → has words j ≡ 0

-- the marks with one before them
abbrev pub with_first : Bool → List ℕ → ℕ → ℕ
with_first is_marked words place = if place == 0 then one is_marked else has words (place - 1)

-- the marks without that of a place: those behind it move up to it
abbrev pub without : ℕ → List ℕ → ℕ → ℕ
without gone words place = if nat_lt place gone then has words place else has words (place + 1)

-- the bits of a word of these marks
abbrev pub IsWord : (ℕ → ℕ) → ℕ → ℕ → Type 0
IsWord marks w word = (bit : ℕ) → bit < 64 → bit_at word bit ≡ marks (64 * w + bit)

-- a line is of a caller
abbrev pub of_caller : List ℕ → Words → Bool
of_caller unit line = fits line.unit unit

-- a line is of an operation of an object
abbrev pub of_site : List ℕ → List ℕ → Words → Bool
of_site object operation line = fits line.object object && fits line.operation operation

-- a line allows
abbrev pub is_allowing : Words → Bool
is_allowing line = line.allow

-- a line's window is open at a tick
abbrev pub is_open_at : ℕ → Words → Bool
is_open_at tick line = is_open line.window tick

-- a line passes two tests
abbrev pub passes_both : (Words → Bool) → (Words → Bool) → Words → Bool
passes_both first second line = first line && second line
