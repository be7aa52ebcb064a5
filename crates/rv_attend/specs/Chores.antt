-- What the operator's thread asks by itself between two commands. (own)
use Rattle.std.specs.Prelude.{◌≡◌, ℕ, zero, suc, Bool, true, false, List}
use Rattle.rv_behind.specs.Acting.{Does}
use Rattle.rv_behind.specs.Events.{by}
use Rattle.rv_behind.specs.declared.event.Ask.{Ask}
use Rattle.rv_behind.specs.declared.event.Ask.TheVariants.{Step, Read, View}
use Rattle.rv_behind.specs.declared.event.Ask.TheVariants as asks
use Rattle.rv_behind.specs.declared.event.Reply.{Reply}
use Rattle.rv_event.specs.declared.entry.Request.{Request}
use Rattle.rv_event.specs.declared.entry.Request.TheVariants.{Archive, Tick}
use Rattle.rv_port.specs.Traces.{Passing}
use Rattle.rv_turn.specs.Passes.{Acted}

-- ticks, and in a lasting run that entries be given up
abbrev pub IsAsked : (lasting : Bool) → Request → Type 0
IsAsked lasting (Tick ticks) = Unit {0}
IsAsked true (Archive number) = Unit {0}
IsAsked lasting request = ⊥

-- these, pages of the journal, and what is shown of the host
abbrev pub IsChore : (lasting : Bool) → Ask → Type 0
IsChore lasting (Step request) = IsAsked lasting request
IsChore lasting (Read from) = Unit {0}
IsChore lasting View = Unit {0}
IsChore lasting ask = ⊥

-- so many chores, one after another, and nothing else is asked
abbrev pub ChoresOn : (lasting : Bool) → ℕ → Passing → Passing → Type 0
ChoresOn lasting zero v w = w ≡ v
ChoresOn lasting (suc count) v w =
    (u : Passing) × (ask : Ask) × (reply : Reply) × ChoresOn lasting count v u × IsChore lasting ask × Acted by Does u ask reply w

abbrev pub ChoresIn : (lasting : Bool) → Passing → Passing → Type 0
ChoresIn lasting v w = (count : ℕ) × ChoresOn lasting count v w

-- as they are done in any run: no entry is given up
abbrev pub Chores : Passing → Passing → Type 0
Chores v w = ChoresIn false v w
