-- The words of a line. (own)
use Rattle.std.specs.Prelude.{ℕ, Bool, true, false, ◌==◌, ◌||◌, List, [], ◌∷◌}
use Rattle.std.specs.List.{filter, slice_split}

-- a space or a tab
abbrev pub is_blank : ℕ → Bool
is_blank byte = byte == 32 || byte == 9

-- a part with something in it
abbrev pub is_word : List ℕ → Bool
is_word [] = false
is_word (byte ∷ bytes) = true

-- what stands between spaces or tabs
abbrev pub words : List ℕ → List (List ℕ)
words line = filter is_word (slice_split is_blank line)

-- there is a word among them
abbrev pub is_some_word : List (List ℕ) → Bool
is_some_word [] = false
is_some_word (word ∷ others) = true
