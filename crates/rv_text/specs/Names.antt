-- Identifiers, names of objects, and names that are the same. (ISO/IEC 8652:2012, 2.3, with a limit of 64 characters)
use Rattle.std.specs.Prelude.{ℕ, Bool, true, false, ◌==◌, ◌&&◌, not, nat_le, nat_lt, length, if◌then◌else◌, List, [], ◌∷◌, ◌++◌, map, Option, Some, None}
use Rattle.std.specs.Char.{is_ascii_alphanumeric, is_ascii_alphabetic, to_ascii_lowercase}
use Rattle.std.specs.List.{position_or_len, before_first, after_first}
use Rattle.std.specs.Str.{bytes_eq}

-- letters and digits with single underscores between them; `gap` tells that none stood there since the start or the last underscore
abbrev pub is_spelled : Bool → List ℕ → Bool
is_spelled gap [] = not gap
is_spelled gap (byte ∷ bytes) =
    if is_ascii_alphanumeric byte then is_spelled false bytes
    else if byte == 95 && not gap then is_spelled true bytes
    else false

abbrev pub starts_with_letter : List ℕ → Bool
starts_with_letter [] = false
starts_with_letter (byte ∷ bytes) = is_ascii_alphabetic byte

-- the most characters of an identifier (own)
abbrev pub most_characters : ℕ
most_characters = 64

-- an identifier: at most 64 characters, a letter first, then letters and digits with single underscores between them
abbrev pub is_identifier : List ℕ → Bool
is_identifier word = nat_le (length word) most_characters && starts_with_letter word && is_spelled true word

abbrev pub is_dot : ℕ → Bool
is_dot byte = byte == 46

-- the two identifiers of `Unit.Object`: neither has a dot, so the first dot is the one between them
abbrev pub dotted_parts : List ℕ → Option (List ℕ × List ℕ)
dotted_parts word =
    if nat_lt (position_or_len is_dot word) (length word) && is_identifier (before_first is_dot word) && is_identifier (after_first is_dot word)
    then Some (before_first is_dot word, after_first is_dot word)
    else None

-- names are the same where they differ in case alone
abbrev pub is_same_name : List ℕ → List ℕ → Bool
is_same_name name other = bytes_eq (map to_ascii_lowercase name) (map to_ascii_lowercase other)

-- `Unit.Object`
abbrev pub dotted : List ℕ → List ℕ → List ℕ
dotted unit name = unit ++ 46 ∷ name
