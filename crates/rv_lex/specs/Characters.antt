-- The characters of words and of what stands between them, as bytes.
use Rattle.std.specs.Prelude.{ℕ, suc, Bool, true, false, not, ◌&&◌, ◌||◌, ◌==◌, if◌then◌else◌, nat_le, [], ◌∷◌, slice_index}
use Rattle.std.specs.List.{prefix_len}
use Rattle.std.specs.Char.{is_ascii_alphanumeric}
use Rattle.rv_lex.specs.Kinds.{Text}

-- a letter, a digit or an underscore (2.3, 2.4.1)
abbrev pub is_word_byte : ℕ → Bool
is_word_byte b = is_ascii_alphanumeric b || b == 95

-- how many letters, digits and underscores stand at the front
abbrev pub run : Text → ℕ
run z = prefix_len is_word_byte z

-- space, tab, line feed, vertical tab, form feed or carriage return (2.2)
abbrev pub is_separator : ℕ → Bool
is_separator b = b == 32 || (nat_le 9 b && nat_le b 13)

-- how many bytes of separators and comments stand at the front, inside a comment or outside;
-- a comment goes on through its line feed (2.7)
abbrev pub gap_from : Bool → Text → ℕ
gap_from inside [] = 0
gap_from true (b ∷ z) = suc (gap_from (not (b == 10)) z)
gap_from false (b ∷ z) =
    if b == 45 && slice_index z 0 == 45 then suc (gap_from true z)
    else (if is_separator b then suc (gap_from false z) else 0)

-- how many bytes of separators and comments stand at the front of a text
unfoldable pub gap_len : Text → ℕ
gap_len = gap_from false

-- the text ends in no underscore, and none of them follows another or begins the text, where
-- `after_line` says that one stands before it; so the empty text is none (2.3, 2.4.1)
abbrev pub is_spaced_after : Bool → Text → Bool
is_spaced_after after_line [] = not after_line
is_spaced_after after_line (b ∷ z) = if b == 95 && after_line then false else is_spaced_after (b == 95) z

-- single underscores between other characters
unfoldable pub is_spaced : Text → Bool
is_spaced = is_spaced_after true
