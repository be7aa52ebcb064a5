-- What the text of a list gives, line by line, and its first fault (own).
use Rattle.std.specs.Prelude.{◌≡◌, ℕ, ◌+◌, Bool, true, false, not, ◌==◌, ◌&&◌, nat_le, if◌then◌else◌, List, [], ◌∷◌, ◌++◌, length, codes, Option, Some, None, Result, Ok, Err}
use Rattle.std.specs.Str.{bytes_eq}
use Rattle.std.specs.Str.Lines.{lines}
use Rattle.rv_text.specs.Words.{words, is_some_word}
use Rattle.rv_text.specs.Names.{is_identifier}
use Rattle.rv_access.specs.Spelled.{is_star_or, is_dotted}
use Rattle.rv_access.specs.Words.{WindowWords, Words}
use Rattle.rv_access.specs.Windows.{is_framed, is_window}
use Rattle.rv_access.specs.Limits.{most_lines}
use Rattle.rv_access.specs.declared.fault.ListFault.{ListFault}
use Rattle.rv_access.specs.declared.fault.ListFault.TheVariants.{BadWord, BadName, TooMany, NoMemory, BadWindow}

infixl 10 ◌>>=◌
abbrev pub ◌>>=◌ : {A B : Type 0} → Result A ListFault → (A → Result B ListFault) → Result B ListFault
(Ok x) >>= f = f x
(Err fault) >>= f = Err fault

-- a call tells what reading gives, unless memory ran out
abbrev pub Fails : {Y : Type 0} → ListFault → Result Y ListFault → Type 0
Fails NoMemory read = Unit {0}
Fails fault read = read ≡ Err fault

abbrev pub Gives : {Y : Type 0} → Result Y ListFault → Result Y ListFault → Type 0
Gives (Ok x) read = read ≡ Ok x
Gives (Err fault) read = Fails fault read

abbrev pub named : ℕ → Bool → List ℕ → List ℕ → List ℕ → Result Words ListFault
named number allow unit object operation =
    if is_star_or is_identifier unit && is_star_or is_dotted object && is_star_or is_identifier operation
    then Ok (record { allow = allow; unit = unit; object = object; operation = operation; window = None })
    else Err (BadName number)

-- the line of the four words that stand before a window
abbrev pub worded : ℕ → List ℕ → List ℕ → List ℕ → List ℕ → Result Words ListFault
worded number verb unit object operation =
    if bytes_eq verb (codes "allow") then named number true unit object operation
    else if bytes_eq verb (codes "deny") then named number false unit object operation
    else Err (BadWord number)

-- the line within the window, if its numbers are those of one
abbrev pub within : ℕ → WindowWords → Words → Result Words ListFault
within number window line =
    if is_window window
    then Ok (record { allow = line.allow; unit = line.unit; object = line.object; operation = line.operation; window = Some window })
    else Err (BadWindow number)

-- the four words of a window, and no more
abbrev pub phrase_of : List (List ℕ) → Option WindowWords
phrase_of (from ∷ opening ∷ until ∷ closing ∷ []) =
    Some (record { from = from; opening = opening; until = until; closing = closing })
phrase_of words = None

-- what the words behind it make of a line: nothing is wrong with its names or its numbers before all its words are right
abbrev pub windowed : ℕ → Option WindowWords → Result Words ListFault → Result Words ListFault
windowed number None line = Err (BadWord number)
windowed number (Some window) line = if is_framed window then line >>= within number window else Err (BadWord number)

-- the line that the words of this line of a text are: four, or eight with a window
abbrev pub line_of : ℕ → List (List ℕ) → Result Words ListFault
line_of number (verb ∷ unit ∷ object ∷ operation ∷ []) = worded number verb unit object operation
line_of number (verb ∷ unit ∷ object ∷ operation ∷ word ∷ words) =
    windowed number (phrase_of (word ∷ words)) (worded number verb unit object operation)
line_of number words = Err (BadWord number)

-- a comment begins with `#`
abbrev pub is_comment : List ℕ → Bool
is_comment [] = false
is_comment (byte ∷ bytes) = byte == 35

-- neither a comment nor blank
abbrev pub is_meant : List ℕ → Bool
is_meant line = not (is_comment line) && is_some_word (words line)

-- the list after one more line of the text
abbrev pub step : ℕ → List Words → List ℕ → Result (List Words) ListFault
step number list line =
    if is_meant line
    then (if nat_le most_lines (length list) then Err (TooMany number) else line_of number (words line) >>= λ more. Ok (list ++ more ∷ []))
    else Ok list

abbrev pub steps : ℕ → List Words → List (List ℕ) → Result (List Words) ListFault
steps number list [] = Ok list
steps number list (line ∷ others) = step number list line >>= λ more. steps (number + 1) more others

-- what the text holds, or its first fault
abbrev pub list_of : List ℕ → Result (List Words) ListFault
list_of text = steps 1 [] (lines text)
