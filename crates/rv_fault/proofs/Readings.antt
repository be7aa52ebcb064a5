-- What was read of the text of a section.
use Rattle.std.proofs.Common.{◌≡◌, ℕ, List, Some, None, Option, Ok, Err, Result, sym, subst}
use Rattle.rv_shape.specs.Shape.{Shape}
use Rattle.rv_shape.specs.ShapeText.{shape_of}
use Rattle.rv_fault.specs.declared.failure.Failure.{Failure}
use Rattle.rv_fault.specs.declared.failure.Failure.TheVariants.{Refused, Memory, Io}
use Rattle.rv_fault.specs.declared.fault.What.{What}
use Rattle.rv_fault.specs.Sections.{Giving, Just, Reads, if_shape}

-- nothing was read: memory ran out, or what stands against the text is told at the line
pub unread : {A : Type 0} (line : ℕ) (gives : Giving A) (Leads : Failure → Type 0) (failure : Failure) → Leads Memory → ((what : What) → gives (Err what) → Leads (Refused (record { line = line; what = what })))
    → (let read : Result A Failure = Err failure in Reads line gives read) → Leads failure
unread line gives Leads Memory memory told read = memory
unread line gives Leads (Io error) memory told read = absurd read
unread line gives Leads (Refused fault) memory told read =
    subst (λ (n : ℕ). Leads (Refused (record { line = n; what = fault.what }))) (sym read.1) (told fault.what read.0)

-- a shape was read
pub shape_there : (text : List ℕ) (shape : Shape) → Just (if_shape (shape_of text)) (Ok shape) → shape_of text ≡ Some shape
shape_there text shape h = by_shape (shape_of text) h
  where
    by_shape : (read : Option Shape) → Just (if_shape read) (Ok shape) → read ≡ Some shape
    by_shape (Some other) same = cc
    by_shape None same = absurd cc
