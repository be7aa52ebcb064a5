-- How a step ends a body (ISO/IEC 8652:2012, 2.3, 11.1). Names of exceptions ignore case, as identifiers do; keywords heed it.
use Rattle.std.specs.Prelude.{ℕ, true, if◌then◌else◌, List, [], ◌∷◌, codes, Option, None}
use Rattle.std.specs.Str.{bytes_eq}
use Rattle.rv_event.specs.Words as words
use Rattle.rv_event.specs.Words.{raise_of}
use Rattle.rv_event.specs.declared.entry.Exit.{Exit}

-- how a body ends
abbrev pub exit_of : List (List ℕ) → Option Exit
exit_of [] = None
exit_of (word ∷ more) = if bytes_eq word (codes "raise") then raise_of true more else words.exit_of (word ∷ more)
