-- What was read of a section comes to a deed, or stands against it.
use Rattle.std.proofs.Common.{◌≡◌, ℕ, List, Some, None, Option, Ok, Err, Result, refl, subst}
use Rattle.rv_access.specs.Words.{Words}
use Rattle.rv_access.specs.Reading.{list_of}
use Rattle.rv_access.specs.declared.fault.ListFault.{ListFault}
use Rattle.rv_shape.specs.Shape.{Shape}
use Rattle.rv_shape.specs.ShapeText.{shape_of}
use Rattle.rv_code.specs.declared.unit.Unit.{Unit as Compiled}
use Rattle.rv_fault.specs.declared.failure.Failure.{Failure}
use Rattle.rv_fault.specs.declared.fault.What.{What}
use Rattle.rv_fault.specs.declared.fault.What.TheVariants as Whats
use Rattle.rv_fault.specs.Sections.{GivesUnit, Giving, Just, Reads, if_list, if_shape}
use Rattle.rv_fault.proofs.Readings.{unread}
use Rattle.rv_play.specs.Acts.{Compiles, load_act, set_act}
use Rattle.rv_play.specs.declared.deed.Deed.{Deed}
use Rattle.rv_play.specs.Stages.{DeedText, Stage}
use Rattle.rv_play.specs.Deeds.{Comes, ComesToDeed, compiles}

-- what stands against the text of a section
stands : {A : Type 0} (line : ℕ) (gives : Giving A) (finds : Result DeedText What → Type 0) (failure : Failure) → ((what : What) → gives (Err what) → finds (Err what))
    → (let read : Result A Failure = Err failure in Reads line gives read) → let r : Result Deed Failure = Err failure in Comes line finds r
stands line gives finds failure found read =
    unread line gives (λ (f : Failure). let r : Result Deed Failure = Err f in Comes line finds r) failure tt (λ what given. (what, found what given, refl)) read

-- Units

pub unit_stands : (line : ℕ) (stage : Stage) (text : List ℕ) (failure : Failure) → (let read : Result Compiled Failure = Err failure in Reads line (GivesUnit stage.history.shapes text) read)
    → let r : Result Deed Failure = Err failure in Comes line (ComesToDeed stage (Compiles line text)) r
unit_stands line stage text failure read = stands line (GivesUnit stage.history.shapes text) (ComesToDeed stage (Compiles line text)) failure by_what read
  where
    by_what : (what : What) → GivesUnit stage.history.shapes text (Err what) → compiles stage.history.shapes text (Err what)
    by_what Whats.TooLong given = given
    by_what (Whats.Unit fault) given = given
    by_what _ given = absurd given

-- so it does over shapes that are those of the stage
pub unit_stands_over : (line : ℕ) (stage : Stage) (shapes : List Shape) (text : List ℕ) (failure : Failure) → shapes ≡ stage.history.shapes
    → (let read : Result Compiled Failure = Err failure in Reads line (GivesUnit shapes text) read) → let r : Result Deed Failure = Err failure in Comes line (ComesToDeed stage (Compiles line text)) r
unit_stands_over line stage shapes text failure e h =
    unit_stands line stage text failure (subst (λ (ss : List Shape). let read : Result Compiled Failure = Err failure in Reads line (GivesUnit ss text) read) e h)

-- Shapes

pub shape_stands : (line : ℕ) (stage : Stage) (text : List ℕ) (failure : Failure) → (let read : Result Shape Failure = Err failure in Reads line (Just (if_shape (shape_of text))) read)
    → let r : Result Deed Failure = Err failure in Comes line (ComesToDeed stage (load_act line (shape_of text))) r
shape_stands line stage text failure read = stands line (Just (if_shape (shape_of text))) (ComesToDeed stage (load_act line (shape_of text))) failure (λ what given. by_shape what (shape_of text) given) read
  where
    by_shape : (what : What) (read : Option Shape) → Just (if_shape read) (Err what) → ComesToDeed stage (load_act line read) (Err what)
    by_shape what (Some other) same = absurd cc
    by_shape what None same = cc

-- Lists

pub list_stands : (line : ℕ) (stage : Stage) (text : List ℕ) (failure : Failure) → (let read : Result (List Words) Failure = Err failure in Reads line (Just (if_list (list_of text))) read)
    → let r : Result Deed Failure = Err failure in Comes line (ComesToDeed stage (set_act line (list_of text))) r
list_stands line stage text failure read = stands line (Just (if_list (list_of text))) (ComesToDeed stage (set_act line (list_of text))) failure (λ what given. by_list what (list_of text) given) read
  where
    by_list : (what : What) (read : Result (List Words) ListFault) → Just (if_list read) (Err what) → ComesToDeed stage (set_act line read) (Err what)
    by_list what (Ok other) same = absurd cc
    by_list what (Err fault) same = cc
