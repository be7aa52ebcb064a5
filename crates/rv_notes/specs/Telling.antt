-- What is told of notes, for people. (own)
use Rattle.std.specs.Prelude.{◌≡◌, ℕ, List, [], ◌∷◌, ◌++◌, codes, Option, Some, None}
use Rattle.std.specs.Fmt.{decimal}
use Rattle.std.specs.Option.{unwrap_or}
use Rattle.rv_access.specs.Lines.{line_at}
use Rattle.rv_access.specs.Words.{Words}
use Rattle.rv_access.specs.declared.change.Change.{Change}
use Rattle.rv_notes.specs.Changes.{AreChangeNotes, made}
use Rattle.rv_notes.specs.Names.{Scene}
use Rattle.rv_notes.specs.Notes.{number_of}
use Rattle.rv_notes.specs.declared.note.Note.{Note}
use Rattle.rv_notes.specs.declared.note.Note.TheVariants.{Caller, Home, Object, Operation, Past, Covered}

-- these words say of a word that it names nothing; what there is instead stands behind, and isn't pinned
abbrev pub Names : List ℕ → List ℕ → Type 0
Names word words = (instead : List ℕ) × (words ≡ codes "names " ++ (word ++ (codes "; " ++ instead)))

-- what a note says of its line
abbrev pub SaysOf : Note → Words → List ℕ → Type 0
SaysOf (Caller number) line words = Names line.unit words
SaysOf (Home number) line words = Names line.object words
SaysOf (Object number) line words = Names line.object words
SaysOf (Operation number) line words = Names line.operation words
SaysOf (Past number) line words = words ≡ codes "decides no call any more, since its window has ended"
SaysOf (Covered number) line words = words ≡ codes "decides no call, since later lines cover it"

-- nothing where there is no such line
abbrev pub SaysAt : Note → Option Words → List ℕ → Type 0
SaysAt note None words = words ≡ []
SaysAt note (Some line) words = SaysOf note line words

-- what a note says of its line of a list
abbrev pub Says : List Words → Note → List ℕ → Type 0
Says list note words = SaysAt note (line_at list (number_of note)) words

-- the line that tells a note on a list
abbrev pub TellsNote : List Words → Note → List ℕ → Type 0
TellsNote list note line =
    (words : List ℕ) × Says list note words × (line ≡ codes "warning: list line " ++ (decimal (number_of note) ++ 32 ∷ (words ++ 10 ∷ [])))

-- the lines that tell notes, one for each, in their order
abbrev pub TellsNotes : List Words → List Note → List ℕ → Type 0
TellsNotes list [] text = text ≡ []
TellsNotes list (note ∷ notes) text =
    (line : List ℕ) × (others : List ℕ) × TellsNote list note line × TellsNotes list notes others × (text ≡ line ++ others)

-- what is told of a change of one line: the notes on the list that it makes; nothing where it makes none
abbrev pub TellsChange : Scene → List Words → Change → List ℕ → Type 0
TellsChange scene before change text =
    (notes : List Note) × AreChangeNotes scene before change notes × TellsNotes (unwrap_or (made before change) []) notes text
