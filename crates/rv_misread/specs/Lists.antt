-- Which fault of a list each reason is one of (own).
use Rattle.std.specs.Prelude.{◌≡◌, ℕ, ◌==◌, if◌then◌else◌, Bool, true, false, ◌||◌, nat_lt, List, [], ◌∷◌, codes, drop, length}
use Rattle.std.specs.Prelude.{Option, Some, None, Result, Err}
use Rattle.std.specs.Str.{bytes_eq}
use Rattle.rv_text.specs.Names.{is_identifier, is_same_name}
use Rattle.rv_text.specs.Numbers.{is_natural, read_on}
use Rattle.rv_access.specs.Limits.{most_tick}
use Rattle.rv_access.specs.Spelled.{is_star_or, is_dotted}
use Rattle.rv_access.specs.Words.{WindowWords, Words}
use Rattle.rv_access.specs.Windows.{is_framed, is_window}
use Rattle.rv_access.specs.Reading.{phrase_of, windowed}
use Rattle.rv_access.specs.declared.fault.ListFault.{ListFault}
use Rattle.rv_access.specs.declared.fault.ListFault.TheVariants.{BadWord, BadName, BadWindow}
use Rattle.rv_misread.specs.declared.lists.LineReason.{LineReason}
use Rattle.rv_misread.specs.declared.lists.LineReason.TheVariants.{NoVerb, Missing, NoFrom, NoUntil, NoWindow}
use Rattle.rv_misread.specs.declared.lists.LineReason.TheVariants.{NoUnit, NoObject, NoOperation, NoFirst, NoEnd, PastLast, Empty}

-- the fault that the reader tells of the line of this number
abbrev pub fault_of : ℕ → LineReason → ListFault
fault_of number NoVerb = BadWord number
fault_of number Missing = BadWord number
fault_of number NoFrom = BadWord number
fault_of number NoUntil = BadWord number
fault_of number NoWindow = BadWord number
fault_of number NoUnit = BadName number
fault_of number NoObject = BadName number
fault_of number NoOperation = BadName number
fault_of number NoFirst = BadWindow number
fault_of number NoEnd = BadWindow number
fault_of number PastLast = BadWindow number
fault_of number Empty = BadWindow number

-- the word of this number, from 0; empty where there is none
abbrev pub first_word : List (List ℕ) → List ℕ
first_word [] = []
first_word (word ∷ words) = word

abbrev pub word_at : ℕ → List (List ℕ) → List ℕ
word_at number words = first_word (drop number words)

abbrev pub is_verb : List ℕ → Bool
is_verb word = bytes_eq word (codes "allow") || bytes_eq word (codes "deny")

-- what a reason says of the words of a line
abbrev pub Says : LineReason → List (List ℕ) → Type 0
Says NoVerb words = is_verb (word_at 0 words) ≡ false
Says Missing words = nat_lt (length words) 4 ≡ true
Says NoFrom words = is_same_name (word_at 4 words) (codes "from") ≡ false
Says NoUntil words = is_same_name (word_at 6 words) (codes "until") ≡ false
Says NoWindow words = (length words == 8) ≡ false
Says NoUnit words = is_star_or is_identifier (word_at 1 words) ≡ false
Says NoObject words = is_star_or is_dotted (word_at 2 words) ≡ false
Says NoOperation words = is_star_or is_identifier (word_at 3 words) ≡ false
Says NoFirst words = is_natural (word_at 5 words) ≡ false
Says NoEnd words = is_natural (word_at 7 words) ≡ false
Says PastLast words = nat_lt most_tick (read_on 0 (word_at 7 words)) ≡ true
Says Empty words = nat_lt (read_on 0 (word_at 5 words)) (read_on 0 (word_at 7 words)) ≡ false

-- the words behind an operation are those of a window, its numbers aside
pub record Frames (found : List (List ℕ)) (window : WindowWords) : Type 0 where
  pub words : found ≡ window.from ∷ window.opening ∷ window.until ∷ window.closing ∷ []
  pub framed : is_framed window ≡ true

-- the words behind an operation are refused for this reason, whatever stands before them
abbrev pub IsUnframed : LineReason → List (List ℕ) → Type 0
IsUnframed reason found =
    (number : ℕ) → (line : Result Words ListFault) → windowed number (phrase_of found) line ≡ Err (fault_of number reason)

-- the fault of a window of these words
abbrev pub fault_within : ℕ → WindowWords → Option ListFault
fault_within number window = if is_window window then None else Some (BadWindow number)
