-- What the acts of a script come to: deeds, with names looked up among the units that are loaded (own).
use Rattle.std.specs.Prelude.{◌≡◌, ◌<◌, ◌≤◌, ℕ, ℤ, pos, true, false, List, ◌∷◌, ◌++◌, codes, length}
use Rattle.std.specs.Prelude.{Option, Some, None, Result, Ok, Err}
use Rattle.std.specs.Fmt.{signed_decimal}
use Rattle.rv_access.specs.Words.{Words}
use Rattle.rv_access.specs.Text.{line_text, list_text}
use Rattle.rv_access.specs.declared.change.Change.{Change}
use Rattle.rv_access.specs.declared.change.Change.TheVariants.{Whole, Append, Remove, Replace}
use Rattle.rv_access.specs.declared.fault.ListFault.{ListFault}
use Rattle.rv_shape.specs.Shape.{Shape}
use Rattle.rv_shape.specs.Fits as fitting
use Rattle.rv_shape.specs.declared.fault.ShapeFault.{ShapeFault}
use Rattle.rv_event.specs.Text.{request_text}
use Rattle.rv_event.specs.declared.entry.Request.{Request}
use Rattle.rv_history.specs.declared.command.Command.{Command}
use Rattle.rv_history.specs.declared.command.Command.TheVariants as Commands
use Rattle.rv_step.specs.declared.step.Asked.{Asked}
use Rattle.rv_step.specs.declared.step.Asked.TheVariants as Asks
use Rattle.rv_step.specs.Lookup.{operator, actor_of, request_of}
use Rattle.rv_step.specs.StepText.{StepWords}
use Rattle.rv_fault.specs.declared.failure.Failure.{Failure}
use Rattle.rv_fault.specs.declared.failure.Failure.TheVariants.{Refused, Memory, Io}
use Rattle.rv_fault.specs.declared.fault.What.{What}
use Rattle.rv_fault.specs.declared.fault.What.TheVariants as Whats
use Rattle.rv_script.specs.UnitTexts.{most_unit_bytes}
use Rattle.rv_unit.specs.Compiles.{IsCompiled, IsRefused}
use Rattle.rv_unit.specs.declared.fault.UnitFault.TheVariants as Units
use Rattle.rv_code.specs.Bodies.{UnitBodies, without_bodies}
use Rattle.rv_exec.specs.Bodies.{no_bodies}
use Rattle.rv_go.specs.Goes as going
use Rattle.rv_step.specs.declared.step.Asker.{Asker}
use Rattle.rv_play.specs.Acts.{Act, Loads, Compiles, Sets, Steps, Goes, Stops}
use Rattle.rv_play.specs.declared.deed.Deed.{Deed}
use Rattle.rv_play.specs.Stages.{DeedText, deed_text, Stage}

-- a command that is no `go` and loads nothing, with the number of the line that it names
abbrev pub plain : ℕ → Command → ℤ → DeedText
plain actor command number = record { actor = actor; command = Some command; number = number; goes = false; bodies = no_bodies }

-- a request
abbrev pub ask : ℕ → Request → DeedText
ask actor request = plain actor (Commands.Ask actor request) (pos 0)

-- the command of an actor's text, if it has something to ask
abbrev pub asked_command : ℕ → Option Request → Option Command
asked_command actor None = None
asked_command actor (Some request) = Some (Commands.Ask actor request)

-- a request of an actor's text, or none where it has nothing to ask
abbrev pub go : ℕ → Option Request → DeedText
go actor request = record { actor = actor; command = asked_command actor request; number = pos 0; goes = true; bodies = no_bodies }

-- what `go` asks for an actor
abbrev pub goes : Stage → ℕ → DeedText
goes stage actor = go actor (going.asks stage.texts stage.history actor)

-- a change of one line of the list, which a step names by this number
abbrev pub changes_line : ℕ → Change → ℤ → DeedText
changes_line actor change number = plain actor (Commands.Change change) number

-- a unit with its bodies, loaded by the operator
abbrev pub load : Shape → UnitBodies → DeedText
load shape bodies = record { actor = operator; command = Some (Commands.Load shape); number = pos 0; goes = false; bodies = bodies }

-- the list, set whole by the operator
abbrev pub set : List Words → DeedText
set list = plain operator (Commands.Change (Whole list)) (pos 0)

-- the words of a change; the number is as the step has it, also below zero
abbrev pub change_words : Change → ℤ → List ℕ
change_words (Whole list) number = codes "list [" ++ (list_text list ++ codes "]")
change_words (Append line) number = codes "append " ++ line_text line
change_words (Remove line) number = codes "remove " ++ signed_decimal number
change_words (Replace line other) number = codes "replace " ++ (signed_decimal number ++ 32 ∷ line_text other)

-- the words of a command, or of a `go` that has none
abbrev pub command_words : List Shape → ℤ → Option Command → List ℕ
command_words shapes number (Some (Commands.Ask actor request)) = request_text shapes request
command_words shapes number (Some (Commands.Load shape)) = codes "load " ++ shape.name
command_words shapes number (Some (Commands.Change change)) = change_words change number
command_words shapes number None = codes "go"

-- the words of a deed, as an answer that isn't recorded is told
abbrev pub words_of : List Shape → DeedText → List ℕ
words_of shapes deed = command_words shapes deed.number deed.command

-- what a name stands for, if it is loaded
abbrev pub if_known : {X : Type 0} → Option X → Result X What
if_known None = Err Whats.UnknownName
if_known (Some x) = Ok x

-- with what there is, where nothing stands against it
infixl 10 ◌>>◌
abbrev pub ◌>>◌ : {A B : Type 0} → Result A What → (A → Result B What) → Result B What
(Ok x) >> f = f x
(Err what) >> f = Err what

-- a change of one line of the list, or what is wrong with its line
abbrev pub changes : ℕ → Result Change ListFault → ℤ → Result DeedText What
changes actor (Ok change) number = Ok (changes_line actor change number)
changes actor (Err fault) number = Err (Whats.List fault)

-- a request of an actor
abbrev pub requests : List Shape → Asked → ℕ → Result DeedText What
requests shapes asked actor = if_known (request_of shapes asked) >> λ request. Ok (ask actor request)

-- what an actor asks
abbrev pub asks : List Shape → Asked → ℕ → Result DeedText What
asks shapes (Asks.Change change number) actor = changes actor change number
asks shapes asked actor = requests shapes asked actor

-- a step of who is loaded
abbrev pub step_deed : List Shape → StepWords → Result DeedText What
step_deed shapes step = if_known (actor_of shapes step.asker) >> asks shapes step.asked

-- one request of the text of who is loaded
abbrev pub go_deed : Stage → Asker → Result DeedText What
go_deed stage asker = if_known (actor_of stage.history.shapes asker) >> λ actor. Ok (goes stage actor)

-- a shape, where nothing stands against it: its unit has no text
abbrev pub if_fits : Shape → Option ShapeFault → Result DeedText What
if_fits shape None = Ok (load shape (without_bodies shape))
if_fits shape (Some fault) = Err (Whats.Shape fault)

-- a unit text comes to the load of the unit that it gives, with its bodies; one that is too long is refused whatever its words
abbrev pub compiles : List Shape → List ℕ → Result DeedText What → Type 0
compiles shapes text (Ok deed) =
    (shape : Shape) × (bodies : UnitBodies) × (length text ≤ most_unit_bytes) × IsCompiled shapes text shape bodies × (deed ≡ load shape bodies)
compiles shapes text (Err Whats.TooLong) = most_unit_bytes < length text
compiles shapes text (Err (Whats.Unit told)) = (length text ≤ most_unit_bytes) × IsRefused shapes text told × (told ≡ Units.NoMemory → ⊥)
compiles shapes text (Err what) = ⊥

-- what there is
abbrev pub just : Result DeedText What → Result DeedText What → Type 0
just due found = due ≡ found

-- what an act comes to at a stage: a deed, or what stands against it
abbrev pub ComesToDeed : Stage → Act → Result DeedText What → Type 0
ComesToDeed stage (Loads line shape) found = just (if_fits shape (fitting.fault stage.history.shapes shape)) found
ComesToDeed stage (Compiles line text) found = compiles stage.history.shapes text found
ComesToDeed stage (Sets line list) found = just (Ok (set list)) found
ComesToDeed stage (Steps line step) found = just (step_deed stage.history.shapes step) found
ComesToDeed stage (Goes line asker) found = just (go_deed stage asker) found
ComesToDeed stage (Stops line what) found = just (Err what) found

-- a call gives what is found, a fault with its line, unless memory ran out
abbrev pub Comes : ℕ → (Result DeedText What → Type 0) → Result Deed Failure → Type 0
Comes line finds (Ok deed) = finds (Ok (deed_text deed))
Comes line finds (Err (Refused told)) = (what : What) × finds (Err what) × (told ≡ record { line = line; what = what })
Comes line finds (Err Memory) = Unit {0}
Comes line finds (Err (Io error)) = ⊥
