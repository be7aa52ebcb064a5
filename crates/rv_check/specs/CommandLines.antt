-- The commands of a run, a line after another, as long as the run reads them; and what stands against them (own). A line is the
-- command that it is in a run. That a load is accepted is taken for granted.
use Rattle.std.specs.Prelude.{◌≡◌, ◌≤◌, ℕ, ◌+◌, ◌==◌, Bool, true, false, List, [], ◌∷◌, ◌++◌, length, Option, Some, None, Result, Ok, Err}
use Rattle.rv_text.specs.Words.{words}
use Rattle.rv_input.specs.Coming.{is_end}
use Rattle.rv_shape.specs.Shape.{Shape}
use Rattle.rv_shell.specs.Orders.{order_of}
use Rattle.rv_shell.specs.declared.order.Order.{Order}
use Rattle.rv_shell.specs.declared.order.Order.TheVariants as Orders
use Rattle.rv_script.specs.UnitTexts.{most_unit_bytes}
use Rattle.rv_fault.specs.declared.failure.Failure.{Failure}
use Rattle.rv_fault.specs.declared.failure.Failure.TheVariants.{Refused, Memory, Io}
use Rattle.rv_fault.specs.declared.fault.What.TheVariants as Whats
use Rattle.rv_fault.specs.declared.fault.ScriptFault.{ScriptFault}
use Rattle.rv_fault.specs.Written.{Ended}
use Rattle.rv_check.specs.Checks.{Compiles, OfUnit}
use Rattle.rv_check.specs.ScriptLines.{LineText}

-- how many commands a run reads at most
abbrev pub most_commands : ℕ
most_commands = 100000

-- the lines so far of a unit text, each with a line feed, behind a command `load` at a line
pub record LoadText : Type 0 where
  pub line : ℕ
  pub text : List ℕ

-- the units that are loaded, the unit text that is being read, if one is, and how many commands were read
pub record Serving : Type 0 where
  pub shapes : List Shape
  pub load : Option LoadText
  pub count : ℕ

-- what a line leads to: the run goes on, it has ended after so many commands, or this stands against the line
pub data Taken : Type 0 where
  Goes : Serving → Taken
  Ends : ℕ → Taken
  Stops : ScriptFault → Taken

-- one command more
abbrev pub counted : Serving → Serving
counted serving = record serving { count = serving.count + 1 }

-- what a command leads to; a line that is none stands against the script, and so does a line of the list that is none
abbrev pub by_order : Serving → ℕ → Option Order → Taken
by_order serving number None = Stops (record { line = number; what = Whats.BadStep })
by_order serving number (Some (Orders.Change (Err fault))) = Stops (record { line = number; what = Whats.List fault })
by_order serving number (Some Orders.Quit) = Ends (serving.count + 1)
by_order serving number (Some Orders.Load) = Goes (record (counted serving) { load = Some (record { line = number; text = [] }) })
by_order serving number (Some order) = Goes (counted serving)

-- behind the greatest number of commands none is read
abbrev pub unless_most : Bool → Serving → Taken → Taken
unless_most true serving taken = Ends serving.count
unless_most false serving taken = taken

-- a text is a unit over those that are loaded, and stands behind them from then on
abbrev pub IsLoaded : List Shape → List Shape → List ℕ → Type 0
IsLoaded shapes after text = (shape : Shape) × (length text ≤ most_unit_bytes) × Compiles shapes text shape × (after ≡ shapes ++ shape ∷ [])

-- a unit text that is whole is loaded; its fault is told at its command
abbrev pub Loads : Serving → LoadText → Taken → Type 0
Loads serving load (Goes next) = IsLoaded serving.shapes next.shapes load.text × (next.load ≡ None) × (next.count ≡ serving.count)
Loads serving load (Ends count) = ⊥
Loads serving load (Stops told) = OfUnit serving.shapes serving.shapes load.text [] (Some told.what) × (told.line ≡ load.line)

-- a line of a unit text: `@end` ends it
abbrev pub by_end : Bool → Serving → LoadText → List ℕ → Taken → Type 0
by_end true serving load line taken = Loads serving load taken
by_end false serving load line taken =
    taken ≡ Goes (record serving { load = Some (record load { text = load.text ++ (line ++ 10 ∷ []) }) })

-- what a line leads to
abbrev pub by_load : Serving → Option LoadText → LineText → Taken → Type 0
by_load serving None line taken = taken ≡ unless_most (serving.count == most_commands) serving (by_order serving line.number (order_of (words line.text)))
by_load serving (Some load) line taken = by_end (is_end line.text) serving load line.text taken

abbrev pub TakesLine : Serving → LineText → Taken → Type 0
TakesLine serving line taken = by_load serving serving.load line taken

-- at the end of lines no unit text may be left without its line `@end`
abbrev pub at_end : Option LoadText → Option ScriptFault
at_end None = None
at_end (Some load) = Some (record { line = load.line; what = Whats.BadStep })

-- a call counts the commands of a run whose lines are taken, or tells what stands against their end
abbrev pub IsLeft : Serving → Result ℕ Failure → Type 0
IsLeft serving (Ok count) = (serving.load ≡ None) × (count ≡ serving.count)
IsLeft serving (Err (Refused told)) = at_end serving.load ≡ Some told
IsLeft serving (Err Memory) = ⊥
IsLeft serving (Err (Io error)) = ⊥

-- what follows a line, by what it led to
abbrev pub Follows : Taken → (Serving → Type 0) → ℕ → Option ScriptFault → Type 0
Follows (Goes next) Others count told = Others next
Follows (Ends last) Others count told = (count ≡ last) × (told ≡ None)
Follows (Stops fault) Others count told = told ≡ Some fault

-- lines are taken one after another: so many commands are read, and this is told
abbrev pub TakesAll : Serving → List LineText → ℕ → Option ScriptFault → Type 0
TakesAll serving [] count told = (count ≡ serving.count) × (told ≡ at_end serving.load)
TakesAll serving (line ∷ others) count told =
    (taken : Taken) × TakesLine serving line taken × Follows taken (λ next. TakesAll next others count told) count told

-- a run before its first command
abbrev pub before_commands : List Shape → Serving
before_commands shapes = record { shapes = shapes; load = None; count = 0 }

-- a call loads a text, or tells what stands against it at a line, unless memory ran out
abbrev pub LoadsUnit : ℕ → List Shape → List Shape → List ℕ → Ended → Type 0
LoadsUnit line shapes after text (Ok x) = IsLoaded shapes after text
LoadsUnit line shapes after text (Err (Refused told)) = OfUnit shapes shapes text [] (Some told.what) × (told.line ≡ line)
LoadsUnit line shapes after text (Err Memory) = Unit {0}
LoadsUnit line shapes after text (Err (Io error)) = ⊥

-- a call finds what a line leads to: it tells whether the run goes on, or what stands against the line, unless memory ran out
abbrev pub Leads : (Taken → Type 0) → Serving → Result Bool Failure → Type 0
Leads finds after (Ok true) = finds (Goes after)
Leads finds after (Ok false) = finds (Ends after.count)
Leads finds after (Err (Refused told)) = finds (Stops told)
Leads finds after (Err Memory) = Unit {0}
Leads finds after (Err (Io error)) = ⊥

-- a call counts commands, or tells what stands against the first that something stands against, unless memory ran out
abbrev pub CountsCommands : List Shape → List LineText → Result ℕ Failure → Type 0
CountsCommands shapes lines (Ok count) = TakesAll (before_commands shapes) lines count None
CountsCommands shapes lines (Err (Refused told)) = (count : ℕ) × TakesAll (before_commands shapes) lines count (Some told)
CountsCommands shapes lines (Err Memory) = Unit {0}
CountsCommands shapes lines (Err (Io error)) = ⊥
