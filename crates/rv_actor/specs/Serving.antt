-- Request lines are served one after another, each answered before the next is read. (own)
use Rattle.std.specs.Prelude.{◌≡◌, ℕ, zero, suc, Bool, true, false, List, Option, Some, None, Result, Ok, Err, String, string_bytes}
use Rattle.std.specs.Global.{Global}
use Rattle.std.specs.Io.BufRead.{first_line}
use Rattle.std.specs.Io.Iter.{YieldsKnownPiece}
use Rattle.std.specs.Io.KnownBytes.{Appends}
use Rattle.std.specs.IoError.{error_kind}
use Rattle.std.specs.declared.io.Error.{Error}
use Rattle.std.specs.declared.io.ErrorKind.{ErrorKind}
use Rattle.std.specs.declared.io.ErrorKind.TheVariants.{InvalidData}
use Rattle.rv_port.specs.Calls.{Quits}
use Rattle.rv_port.specs.Ports.{Porting, pass_of}
use Rattle.rv_script.specs.Prefixes.{WritesPrefix}
use Rattle.rv_shape.specs.Shape.{Shape}
use Rattle.rv_text.specs.Words.{words}
use Rattle.rv_actor.specs.Asking.{asked_of}
use Rattle.rv_actor.specs.Outcomes.{Does, goes_behind, outcome_line}
use Rattle.rv_actor.specs.declared.outcome.Outcome.{Outcome}
use Rattle.rv_actor.specs.declared.outcome.Outcome.TheVariants.{NoText}
use Rattle.rv_actor.specs.declared.serving.Goes.{Goes}
use Rattle.rv_actor.specs.declared.serving.Goes.TheVariants.{On, Out}

-- what a reader has left, or a writer holds, where it tells
abbrev pub Known : Type 0
Known = Option (List ℕ)

-- How far the lines are served.
pub record At : Type 0 where
  -- the port of the task
  pub port : Porting
  -- what the reader of the lines has left
  pub left : Known
  -- what the writer holds
  pub written : Known

abbrev pub at : Porting → Known → Known → At
at port left written = record { port = port; left = left; written = written }

-- an outcome is told by its line; where writing fails, or memory is refused, a prefix of the line is written
abbrev pub Tells : Outcome → Known → Known → Result Goes Error → Type 0
Tells outcome old new (Ok goes) = Appends old new (outcome_line outcome) × (goes ≡ goes_behind outcome)
Tells outcome old new (Err error) = WritesPrefix old new (outcome_line outcome)

-- A line is answered: what it asks is performed once, and then what that came to is told.
pub record AnswersLine (shapes : List Shape) (line : List ℕ) (v : Porting) (old : Known) (w : Porting) (new : Known) (result : Result Goes Error) : Type 0 where
  pub outcome : Outcome
  pub does : Does (asked_of shapes (words line)) v outcome w
  pub tells : Tells outcome old new result

-- bytes were read that are no text
abbrev pub is_invalid : ErrorKind → Bool
is_invalid InvalidData = true
is_invalid kind = false

abbrev pub is_no_text : Error → Bool
is_no_text error = is_invalid (error_kind error)

-- of bytes that are no text that is told, and of a read that failed nothing
abbrev pub TellsIf : Bool → Error → Known → Known → Result Goes Error → Type 0
TellsIf true error old new result = Tells NoText old new result
TellsIf false error old new result = (new ≡ old) × (result ≡ Err error)

abbrev pub TellsFault : Error → Known → Known → Result Goes Error → Type 0
TellsFault error old new result = TellsIf (is_no_text error) error old new result

-- a line that was read is answered
abbrev pub ServesRead : List Shape → Result (String Global) Error → Porting → Known → Porting → Known → Result Goes Error → Type 0
ServesRead shapes (Ok line) v old w new result = AnswersLine shapes (string_bytes line) v old w new result
ServesRead shapes (Err error) v old w new result = (w ≡ v) × TellsFault error old new result

-- the same; at the end of the lines nothing is told
abbrev pub ServesItem : List Shape → Option (Result (String Global) Error) → Porting → Known → Porting → Known → Result Goes Error → Type 0
ServesItem shapes (Some read) v old w new result = ServesRead shapes read v old w new result
ServesItem shapes None v old w new result = (w ≡ v) × (new ≡ old) × (result ≡ Ok Out)

-- the next line is read, and answered
pub record ServesNext (shapes : List Shape) (a b : At) (result : Result Goes Error) : Type 0 where
  pub item : Option (Result (String Global) Error)
  pub comes : YieldsKnownPiece string_bytes first_line 10 a.left item b.left
  pub serves : ServesItem shapes item a.port a.written b.port b.written result

-- so many lines were served, behind each of which the next is read
abbrev pub ServesUpTo : List Shape → ℕ → At → At → Type 0
ServesUpTo shapes zero a b = b ≡ a
ServesUpTo shapes (suc count) a c = (b : At) × ServesUpTo shapes count a b × ServesNext shapes b c (Ok On)

-- the end, by what the last line came to
abbrev pub ends_by : Result (Unit {0}) Error → Result Goes Error
ends_by (Ok x) = Ok Out
ends_by (Err error) = Err error

-- Lines are served one after another, each answered before the next is read, up to one behind which none is read any more.
pub record Serves (shapes : List Shape) (a c : At) (result : Result (Unit {0}) Error) : Type 0 where
  pub count : ℕ
  pub before : At
  pub served : ServesUpTo shapes count a before
  pub last : ServesNext shapes before c (ends_by result)

-- The lines of a task are served, and then the task quits.
pub record ServesTask (shapes : List Shape) (a b : At) (result : Result (Unit {0}) Error) : Type 0 where
  pub done : Porting
  pub serves : Serves shapes a (record b { port = done }) result
  pub quits : Quits (pass_of done) (pass_of b.port)
  pub mark : b.port.refused ≡ done.refused
