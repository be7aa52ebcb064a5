-- Lines of commands that are taken one after another.
use Rattle.std.proofs.Common.{◌≡◌, ℕ, Bool, true, false, List, [], Some, None, Option, Ok, Err, Result, refl, sym, ap, ◌∙◌, subst}
use Rattle.std.specs.Prelude.{◌==◌}
use Rattle.rv_text.specs.Words.{words}
use Rattle.rv_shell.specs.Orders.{order_of}
use Rattle.rv_shape.specs.Shape.{Shape}
use Rattle.rv_fault.specs.declared.failure.Failure.{Failure}
use Rattle.rv_fault.specs.declared.failure.Failure.TheVariants.{Refused, Memory, Io}
use Rattle.rv_fault.specs.declared.fault.ScriptFault.{ScriptFault}
use Rattle.rv_fault.specs.Sections.{GivesUnit, Reads}
use Rattle.rv_code.specs.declared.unit.Unit.{Unit as Compiled}
use Rattle.rv_check.specs.ScriptLines.{LineText}
use Rattle.rv_check.proofs.Checking.{unit_told}
use Rattle.rv_check.specs.CommandLines.{CountsCommands, Ends, Goes, IsLeft, Leads, LoadText, LoadsUnit, Serving, Stops, Taken, TakesAll, TakesLine, at_end, before_commands, by_order, most_commands, unless_most}

-- what is said of the lines that are left is said of all
abbrev pub GoesOn : List Shape → List LineText → Serving → List LineText → Type 0
GoesOn shapes all serving left = (count : ℕ) (told : Option ScriptFault) → TakesAll serving left count told → TakesAll (before_commands shapes) all count told

-- no line is left
pub lines_end : (shapes : List Shape) (all : List LineText) (serving : Serving) (left : List LineText) (r : Result ℕ Failure) → left ≡ [] → GoesOn shapes all serving left → IsLeft serving r → CountsCommands shapes all r
lines_end shapes all serving left (Ok count) e on h =
    on count None (subst (λ (ls : List LineText). TakesAll serving ls count None) (sym e) (h.1, sym (ap at_end h.0)))
lines_end shapes all serving left (Err (Refused told)) e on h =
    (serving.count, on serving.count (Some told) (subst (λ (ls : List LineText). TakesAll serving ls serving.count (Some told)) (sym e) (refl, sym h)))
lines_end shapes all serving left (Err Memory) e on h = absurd h
lines_end shapes all serving left (Err (Io error)) e on h = absurd h

-- what stands against a unit text is told at its command
pub load_refused : (shapes : List Shape) (text : List ℕ) (line : ℕ) (failure : Failure) → (let read : Result Compiled Failure = Err failure in Reads line (GivesUnit shapes text) read)
    → let r : Result (Unit {0}) Failure = Err failure in LoadsUnit line shapes shapes text r
load_refused shapes text line Memory h = tt
load_refused shapes text line (Io error) h = absurd h
load_refused shapes text line (Refused told) h = (unit_told shapes shapes text None line (Refused told) h).0

-- what a line leads to, in other words
leads_as : (P Q : Taken → Type 0) (after : Serving) (r : Result Bool Failure) → ((taken : Taken) → P taken → Q taken) → Leads P after r → Leads Q after r
leads_as P Q after (Ok true) f h = f (Goes after) h
leads_as P Q after (Ok false) f h = f (Ends after.count) h
leads_as P Q after (Err (Refused told)) f h = f (Stops told) h
leads_as P Q after (Err Memory) f h = tt
leads_as P Q after (Err (Io error)) f h = absurd h

-- a line that has to be a command
as_command : (shapes : List Shape) (load held : Option LoadText) (count : ℕ) (line : LineText) (taken : Taken) → held ≡ None → load ≡ None → (count == most_commands) ≡ false
    → taken ≡ by_order (record { shapes = shapes; load = load; count = count }) line.number (order_of (words line.text)) → TakesLine (record { shapes = shapes; load = held; count = count }) line taken
as_command shapes load held count line taken h l below is =
    let same : taken ≡ by_order (record { shapes = shapes; load = None; count = count }) line.number (order_of (words line.text)) =
    is ∙ ap (λ (o : Option LoadText). by_order (record { shapes = shapes; load = o; count = count }) line.number (order_of (words line.text))) l in
    let none : TakesLine (record { shapes = shapes; load = None; count = count }) line taken =
    same ∙ ap (λ (b : Bool). unless_most b (record { shapes = shapes; load = None; count = count }) (by_order (record { shapes = shapes; load = None; count = count }) line.number (order_of (words line.text)))) (sym below) in
    subst (λ (o : Option LoadText). TakesLine (record { shapes = shapes; load = o; count = count }) line taken) (sym h) none

pub command_taken : (old : Serving) (shapes : List Shape) (load held : Option LoadText) (count : ℕ) (line : LineText) (after : Serving) (r : Result Bool Failure) → record { shapes = shapes; load = held; count = count } ≡ old → held ≡ None → load ≡ None
    → (count == most_commands) ≡ false → Leads (λ taken. taken ≡ by_order (record { shapes = shapes; load = load; count = count }) line.number (order_of (words line.text))) after r → Leads (TakesLine old line) after r
command_taken old shapes load held count line after r is h l below leads =
    leads_as (λ taken. taken ≡ by_order (record { shapes = shapes; load = load; count = count }) line.number (order_of (words line.text))) (TakesLine old line) after r
    (λ taken e. subst (λ (s : Serving). TakesLine s line taken) is (as_command shapes load held count line taken h l below e)) leads
