-- What the two ends of an output tell one another. (own)
use Rattle.std.specs.Prelude.{◌≡◌, ℕ, ◌+◌, ◌<◌, ◌≤◌, ◌==◌, Bool, true, false, ◌&&◌, not}
use Rattle.std.specs.Prelude.{Option, Some, None, Result, Ok, Err, is_some}
use Rattle.std.specs.IoError.{error_kind, raw_os_error}
use Rattle.std.specs.declared.io.Error.{Error}
use Rattle.std.specs.declared.io.ErrorKind.{ErrorKind}
use Rattle.std.specs.declared.io.ErrorKind.TheVariants.{WouldBlock}

-- how many bytes may wait, 16 MiB
abbrev pub most_bytes : ℕ
most_bytes = 16777216

abbrev pub would_block : ErrorKind → Bool
would_block WouldBlock = true
would_block kind = false

-- an error that no call of the system gave, which says that too many bytes wait
abbrev pub is_unread : Error → Bool
is_unread error = would_block (error_kind error) && not (is_some (raw_os_error error))

-- why no more bytes are counted: a write failed before, or too many would wait
abbrev pub Refuses : Option Error → ℕ → ℕ → Error → Type 0
Refuses (Some failure) waiting count error = error ≡ failure
Refuses None waiting count error = (most_bytes < waiting + count) × (is_unread error ≡ true)

-- so many bytes more are counted, or none
abbrev pub Reserves : Option Error → ℕ → ℕ → ℕ → Result (Unit {0}) Error → Type 0
Reserves failed old count new (Ok x) = (failed ≡ None) × (new ≡ old + count) × (new ≤ most_bytes)
Reserves failed old count new (Err error) = (new ≡ old) × Refuses failed old count error

-- nothing waits, and more may come
abbrev pub is_idle : ℕ → Bool → Bool
is_idle waiting closed = (waiting == 0) && not closed

-- the failure of a write that failed
abbrev pub failure_of : Result (Unit {0}) Error → Option Error
failure_of (Ok x) = None
failure_of (Err error) = Some error

-- what writing came to so far
abbrev pub outcome_of : Option Error → Result (Unit {0}) Error
outcome_of None = Ok tt
outcome_of (Some error) = Err error
