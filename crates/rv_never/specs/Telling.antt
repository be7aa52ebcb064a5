-- What is told of what can never work, for people. (own)
use Rattle.std.specs.Prelude.{◌≡◌, ℕ, List, [], ◌∷◌, ◌++◌, codes, Option, Some, None}
use Rattle.std.specs.Fmt.{decimal}
use Rattle.std.specs.Option.{unwrap_or}
use Rattle.rv_access.specs.Lines.{decides, line_at}
use Rattle.rv_access.specs.Text.{line_text}
use Rattle.rv_access.specs.Words.{Words}
use Rattle.rv_code.specs.Bodies.{UnitBodies}
use Rattle.rv_shape.specs.Catalogue.{OperationNumber, Target, UnitObject, UnitTask, by_names, ceiling_at, dotted, handler, place, target, who}
use Rattle.rv_shape.specs.Fits.{fault}
use Rattle.rv_shape.specs.declared.fault.ShapeFault.{ShapeFault}
use Rattle.rv_shape.specs.Names.{unit_object_name}
use Rattle.rv_shape.specs.Printed.{actor_text}
use Rattle.rv_shape.specs.Readers.{actor_task, unit_named}
use Rattle.rv_shape.specs.Shape.{Shape}
use Rattle.rv_never.specs.Denied.{interrupts}
use Rattle.rv_never.specs.Firings.{firing_of}
use Rattle.rv_never.specs.Nevers.{AreAll, IsDenial, IsTooHigh, line_priority}
use Rattle.rv_never.specs.Written.{AreCallsOf}
use Rattle.rv_never.specs.declared.calls.UnitCalls.{UnitCalls}
use Rattle.rv_never.specs.declared.firing.Firing.{Firing}
use Rattle.rv_never.specs.declared.firing.Firing.TheVariants as firings
use Rattle.rv_never.specs.declared.note.Never.{Never}
use Rattle.rv_never.specs.declared.note.Never.TheVariants.{Denied, Above, LineDenied, LineAbove}

-- `Unit.Object.Operation`; `?` of an operation that there isn't
abbrev pub call_text : Target → List ℕ
call_text target = by_names (codes "?") dotted target

-- the number of the line of the list that decides a call at a tick, 0 if none does
abbrev pub deciding : List Words → ℕ → List ℕ → Target → ℕ
deciding list clock name target = by_names 0 (λ object operation. decides list name object operation clock) target

-- by whom it is denied: by the line of a number, or since there is none
abbrev pub because : ℕ → Option Words → List ℕ
because number None = codes "which no line grants"
because number (Some line) = codes "which list line " ++ (decimal number ++ (codes " denies: " ++ line_text line))

abbrev pub denial : List Words → ℕ → List ℕ
denial list number = because number (line_at list number)

-- that somebody of this name is denied a call
abbrev pub denied_words : List Words → ℕ → List ℕ → Target → List ℕ
denied_words list clock name target =
    name ++ (codes " calls " ++ (call_text target ++ (codes ", " ++ denial list (deciding list clock name target))))

-- `Int_0` .. `Int_9`
abbrev pub line_name : ℕ → List ℕ
line_name line = codes "Int_" ++ decimal line

-- that a line makes a call
abbrev pub line_call_words : ℕ → Target → List ℕ
line_call_words line target = line_name line ++ (codes " calls " ++ (call_text target ++ codes " as Interrupts"))

-- the priority of somebody of this name, and what comes of a ceiling that is too low (D.3)
abbrev pub priority_words : List ℕ → ℕ → List ℕ
priority_words name priority = name ++ (codes " has priority " ++ decimal priority)

abbrev pub ceiling_words : ℕ → List ℕ
ceiling_words ceiling = codes "whose ceiling is " ++ (decimal ceiling ++ codes ": each such call is refused (D.3)")

-- the base priority of a task, if there is one (D.1)
abbrev pub priority_of : Option UnitTask → ℕ
priority_of None = 0
priority_of (Some at) = at.task.priority

-- `Unit.Object`; `?` of an object that there isn't
abbrev pub object_text : Option UnitObject → List ℕ
object_text None = codes "?"
object_text (Some at) = unit_object_name at

-- that the priority of somebody of this name is above the ceiling of an object
abbrev pub above_words : List ℕ → ℕ → Option UnitObject → List ℕ
above_words name priority object =
    priority_words name priority ++ (codes " and calls " ++ (object_text object ++ (codes ", " ++ ceiling_words (ceiling_at object))))

-- the target of a handler, if a line has one
abbrev pub handler_target : List Shape → Option OperationNumber → Target
handler_target shapes None = target shapes 0 0
handler_target shapes (Some at) = target shapes at.object at.operation

-- the object of a handler
abbrev pub handler_object : Option OperationNumber → ℕ
handler_object None = 0
handler_object (Some at) = at.object

-- that a line is denied a call
abbrev pub line_words : List Words → ℕ → ℕ → Target → List ℕ
line_words list clock line target = line_call_words line target ++ (codes ", " ++ denial list (deciding list clock interrupts target))

-- that a line is denied a call of its handler
abbrev pub line_denied_words : List Shape → List Words → ℕ → ℕ → List ℕ
line_denied_words shapes list clock line = line_words list clock line (handler_target shapes (handler shapes line))

-- that the priority of a task, and of a line, is above the ceiling of an object
abbrev pub task_above_words : List Shape → ℕ → ℕ → List ℕ
task_above_words shapes actor object = above_words (actor_text (who shapes actor)) (priority_of (actor_task shapes actor)) (place shapes object)

abbrev pub line_above_words : List Shape → ℕ → List ℕ
line_above_words shapes line = above_words (line_name line) (line_priority line) (place shapes (handler_object (handler shapes line)))

-- what a note says
abbrev pub words_of : List Shape → List Words → ℕ → Never → List ℕ
words_of shapes list clock (Denied unit object operation) =
    denied_words list clock (unwrap_or (unit_named shapes unit) (codes "?")) (target shapes object operation)
words_of shapes list clock (Above actor object) = task_above_words shapes actor object
words_of shapes list clock (LineDenied line) = line_denied_words shapes list clock line
words_of shapes list clock (LineAbove line) = line_above_words shapes line

-- a line that tells these words
abbrev pub warning : List ℕ → List ℕ
warning words = codes "warning: " ++ (words ++ 10 ∷ [])

-- the lines that tell notes, with such a clause behind each
abbrev pub notes_text : List Shape → List Words → ℕ → List ℕ → List Never → List ℕ
notes_text shapes list clock advice [] = []
notes_text shapes list clock advice (note ∷ notes) = warning (words_of shapes list clock note ++ advice) ++ notes_text shapes list clock advice notes

-- what is told as a line fires
abbrev pub text_of_firing : List Shape → List Words → ℕ → ℕ → Firing → List ℕ
text_of_firing shapes list clock line firings.Unattached = codes "warning: Int_" ++ (decimal line ++ (codes " has no handler" ++ 10 ∷ []))
text_of_firing shapes list clock line (firings.Denied number) = warning (line_denied_words shapes list clock line)
text_of_firing shapes list clock line firings.TooLow = warning (line_above_words shapes line)
text_of_firing shapes list clock line firings.Passes = []

abbrev pub firing_text : List Shape → List Words → ℕ → ℕ → List ℕ
firing_text shapes list clock line = text_of_firing shapes list clock line (firing_of shapes list clock line)

-- what to do about calls that are denied to a unit which is being loaded
abbrev pub advice : List ℕ
advice = codes "; append its lines, then load"

-- what is told of units as they are loaded, by the units before and after: what ceilings forbid, and then what the list denies
abbrev pub TellsUnits : List Shape → List Shape → List UnitCalls → List Words → ℕ → List ℕ → Type 0
TellsUnits before after units list clock text =
    (ceilings : List Never) × (denials : List Never) × AreAll (IsTooHigh before after units) ceilings × AreAll (IsDenial before after units list clock) denials
    × (text ≡ notes_text after list clock [] ceilings ++ notes_text after list clock advice denials)

-- the same of one unit with these bodies
abbrev pub TellsUnit : List Shape → Shape → UnitBodies → List Words → ℕ → List ℕ → Type 0
TellsUnit before shape bodies list clock text =
    (calls : UnitCalls) × AreCallsOf before bodies calls × TellsUnits before (before ++ shape ∷ []) (calls ∷ []) list clock text

-- nothing is told of one that doesn't fit
abbrev pub TellsFitting : List Shape → Shape → UnitBodies → List Words → ℕ → List ℕ → Option ShapeFault → Type 0
TellsFitting before shape bodies list clock text None = TellsUnit before shape bodies list clock text
TellsFitting before shape bodies list clock text (Some told) = text ≡ []

abbrev pub TellsLoad : List Shape → Shape → UnitBodies → List Words → ℕ → List ℕ → Type 0
TellsLoad before shape bodies list clock text = TellsFitting before shape bodies list clock text (fault before shape)
