-- Lines cut to the columns that there are. (own)
use Rattle.std.specs.Prelude.{ℕ, ◌-◌, max, nat_le, List, [], ◌∷◌, ◌++◌, codes, length, take, if◌then◌else◌, Option, Some, None}
use Rattle.std.specs.List.{flat_map}
use Rattle.std.specs.Str.{chars, encode_utf8_all}
use Rattle.std.specs.Str.Lines.{lines}

-- a line as so many columns show it: where it has more characters, the last one shown is `>`
abbrev pub cut_line : ℕ → List ℕ → List ℕ
cut_line columns line =
    if nat_le (length (chars line)) columns then line else encode_utf8_all (take (columns - 1) (chars line)) ++ codes ">"

-- each of these lines so
abbrev pub cut_lines : ℕ → List (List ℕ) → List ℕ
cut_lines columns lines = flat_map (λ line. cut_line columns line ++ 10 ∷ []) lines

-- a text, each line as so many columns show it, at least one; nothing is cut where no number is given
abbrev pub cut_text : Option ℕ → List ℕ → List ℕ
cut_text None text = text
cut_text (Some columns) text = cut_lines (max 1 columns) (lines text)
