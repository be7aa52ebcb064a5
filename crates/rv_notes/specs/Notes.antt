-- What is told of the lines of an access list (own).
use Rattle.std.specs.Prelude.{◌≡◌, ◌⊎◌, ◌<◌, ◌≤◌, ℕ, Bool, true, false, List, [], ◌∷◌, ◌++◌, length, Option, Some, None}
use Rattle.std.specs.List.{All, Contains}
use Rattle.rv_access.specs.Words.{Words}
use Rattle.rv_access.specs.Lines.{line_at}
use Rattle.rv_notes.specs.Names.{Scene, lacks_caller, lacks_home, lacks_object, lacks_operation}
use Rattle.rv_notes.specs.Covered.{DecidesNothing, has_ended}
use Rattle.rv_notes.specs.declared.note.Note.{Note}
use Rattle.rv_notes.specs.declared.note.Note.TheVariants.{Caller, Home, Object, Operation, Past, Covered}

-- a line passes a test
abbrev pub passes : (Words → Bool) → Option Words → Bool
passes test None = false
passes test (Some line) = test line

-- the line of this number passes
abbrev pub Passes : List Words → ℕ → (Words → Bool) → Type 0
Passes list number test = passes test (line_at list number) ≡ true

-- what a note says of its line is so
abbrev pub Due : Scene → List Words → Note → Type 0
Due scene list (Caller number) = Passes list number (lacks_caller scene)
Due scene list (Home number) = Passes list number (lacks_home scene)
Due scene list (Object number) = Passes list number (lacks_object scene)
Due scene list (Operation number) = Passes list number (lacks_operation scene)
Due scene list (Past number) = Passes list number (λ line. has_ended line.window scene.clock)
Due scene list (Covered number) = (0 < number) × (number ≤ length list) × DecidesNothing list number

-- each of these notes is due, and each that is due is among them
pub record AreNotes (scene : Scene) (list : List Words) (notes : List Note) : Type 0 where
  pub due : All (Due scene list) notes
  pub all : (note : Note) → Due scene list note → Contains notes note

-- the number of the line that a note is of
abbrev pub number_of : Note → ℕ
number_of (Caller number) = number
number_of (Home number) = number
number_of (Object number) = number
number_of (Operation number) = number
number_of (Past number) = number
number_of (Covered number) = number

-- a note behind others, if it is told
abbrev pub told : Bool → Note → List Note → List Note
told true note notes = notes ++ note ∷ []
told false note notes = notes

-- the notes of the line of a number came behind others, and no more
pub record AddsNotes (scene : Scene) (list : List Words) (number : ℕ) (before after : List Note) : Type 0 where
  pub due : All (Due scene list) before → All (Due scene list) after
  pub kept : (note : Note) → Contains before note → Contains after note
  pub all : (note : Note) → number_of note ≡ number → Due scene list note → Contains after note
  pub apart : (note : Note) → Contains after note → Contains before note ⊎ (number_of note ≡ number)
