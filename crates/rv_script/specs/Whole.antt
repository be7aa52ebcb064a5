-- Which bytes are a script's text (own).
use Rattle.std.specs.Prelude.{ℕ, ◌<◌, ◌≤◌, List, length}
use Rattle.std.specs.Str.{IsUtf8}
use Rattle.rv_script.specs.declared.read.TextError.{TextError}
use Rattle.rv_script.specs.declared.read.TextError.TheVariants.{TooLong, NotText}

-- the greatest length of a script, in bytes
abbrev pub most_bytes : ℕ
most_bytes = 16777216

-- at most so many bytes, of UTF-8
pub record IsScript (bytes : List ℕ) : Type 0 where
  pub short : length bytes ≤ most_bytes
  pub text : IsUtf8 bytes

-- why bytes are none: the length is looked at first
abbrev pub IsRefused : List ℕ → TextError → Type 0
IsRefused bytes TooLong = most_bytes < length bytes
IsRefused bytes NotText = (length bytes ≤ most_bytes) × (IsUtf8 bytes → ⊥)
