-- What of an input has come whole. (own)
use Rattle.std.specs.Prelude.{◌≡◌, ◌⊎◌, ℕ, ◌<◌, ◌+◌, true, List, [], ◌∷◌, ◌++◌, length, codes}
use Rattle.std.specs.List.{slice_split}
use Rattle.std.specs.Str.{IsUtf8}
use Rattle.std.specs.Str.Lines.{strip_carriage_return}
use Rattle.rv_text.specs.Sections.{is_line_feed}
use Rattle.rv_text.specs.Words.{words}
use Rattle.rv_input.specs.declared.whole.Looked.{Looked}
use Rattle.rv_input.specs.Coming.{Reading, is_end, is_run, most_bytes}

abbrev pub all_but_last : {X : Type 0} → List X → List X
all_but_last [] = []
all_but_last (x ∷ []) = []
all_but_last (x ∷ y ∷ xs) = x ∷ all_but_last (y ∷ xs)

-- the lines that have come whole: those that a line feed ends, without it
abbrev pub whole_lines : List ℕ → List (List ℕ)
whole_lines bytes = all_but_last (slice_split is_line_feed bytes)

-- one of some lines is such
abbrev pub OneIs : (List ℕ → Type 0) → List (List ℕ) → Type 0
OneIs Is [] = ⊥
OneIs Is (line ∷ lines) = Is line ⊎ OneIs Is lines

-- Sections

abbrev pub IsRunLine : List ℕ → Type 0
IsRunLine line = is_run (strip_carriage_return line) ≡ true

-- the sections of a script have come whole: the line `@run` behind them has
abbrev pub HasSections : List ℕ → Type 0
HasSections bytes = OneIs IsRunLine (whole_lines bytes)

-- Commands

-- a unit text ends by a line `@end`, or by one that isn't UTF-8, which is as the end of input
abbrev pub EndsText : List ℕ → Type 0
EndsText line = (is_end (strip_carriage_return line) ≡ true) ⊎ (IsUtf8 line → ⊥)

-- the command behind which a unit text comes
abbrev pub IsLoadLine : List ℕ → Type 0
IsLoadLine line = words (strip_carriage_return line) ≡ codes "load" ∷ []

-- the first of these lines is a command that has come whole: of `load` its unit text has come too
abbrev pub BeginWhole : List (List ℕ) → Type 0
BeginWhole [] = ⊥
BeginWhole (line ∷ lines) = IsUtf8 line → IsLoadLine line → OneIs EndsText lines

-- the input went past its greatest length
abbrev pub IsPast : Reading → Type 0
IsPast input = most_bytes < input.given + length input.ahead

-- The next command has come whole, or no more is waited for.
abbrev pub HasCommand : Reading → Type 0
HasCommand input = BeginWhole (whole_lines input.ahead) ⊎ IsPast input

-- Places

-- what stands before the begin of a line
abbrev pub EndsLine : List ℕ → Type 0
EndsLine front = (front ≡ []) ⊎ ((before : List ℕ) × (front ≡ before ++ 10 ∷ []))

-- a line begins behind so many bytes
pub record BeginsLine (at : ℕ) (bytes : List ℕ) : Type 0 where
  pub front : List ℕ
  pub rest : List ℕ
  pub whole : bytes ≡ front ++ rest
  pub long : length front ≡ at
  pub ends : EndsLine front

-- what was looked at so far ends before the begin of a line
abbrev pub IsAtLine : Looked → List ℕ → Type 0
IsAtLine looked bytes = BeginsLine looked.line bytes
