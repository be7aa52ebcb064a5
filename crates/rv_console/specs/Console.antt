-- What the console has beside the commands of a run: words by which the operator looks, and asks nothing that adds an entry. (own)
use Rattle.std.specs.Prelude.{◌≡◌, ◌⊎◌, ℕ, ◌+◌, ◌-◌, ◌^◌, ◌==◌, min, length, List, [], ◌∷◌, codes, if◌then◌else◌, Option, Some, None, Result, Err}
use Rattle.std.specs.Str.{bytes_eq}
use Rattle.rv_behind.specs.Acting.{Does}
use Rattle.rv_behind.specs.Events.{by, catalogue_of}
use Rattle.rv_behind.specs.declared.event.Ask.{Ask}
use Rattle.rv_behind.specs.declared.event.Reply.{Reply}
use Rattle.rv_behind.specs.declared.event.Reply.TheVariants as Gives
use Rattle.rv_event.specs.declared.entry.Entry.{Entry}
use Rattle.rv_host.specs.Pages.{Item}
use Rattle.rv_port.specs.Traces.{Passing}
use Rattle.rv_port.specs.Viewing.{NotViewed}
use Rattle.rv_port.specs.declared.fault.PageFault.TheVariants as PageFaults
use Rattle.rv_turn.specs.Passes.{Acted, IsWorn}
use Rattle.rv_shell.specs.Orders.{order_of}
use Rattle.rv_shell.specs.Serving.{NoActLeft, ReadsOrWorn, TellsCaller, Writes, WritesOnly, Written}
use Rattle.rv_shell.specs.declared.order.Order.{Order}
use Rattle.rv_shell.specs.declared.order.Order.TheVariants as Orders
use Rattle.rv_shell.specs.declared.shell.LineFault.{LineFault}
use Rattle.rv_shell.specs.declared.shell.LineFault.TheVariants.{NoMemory, Write, Worn}
use Rattle.rv_shell.specs.declared.shell.Next.{Next}
use Rattle.rv_shell.specs.declared.shell.Next.TheVariants.{Go}
use Rattle.rv_view.specs.Views.{Shown}
use Rattle.rv_console.specs.Cut.{cut_text}
use Rattle.rv_console.specs.Help.{help_text}
use Rattle.rv_console.specs.Screen.{Screen}
use Rattle.rv_console.specs.Texts.{list_text, status_text}
use Rattle.rv_console.specs.declared.word.Word.{Word}
use Rattle.rv_console.specs.declared.word.Word.TheVariants.{Blank, Help, Lines, Status, Journal, Page}

-- what one word asks of the console, if it does: keywords heed case
abbrev pub single : List ℕ → Option Word
single word =
    if bytes_eq word (codes "help") then Some Help
    else if bytes_eq word (codes "list") then Some Lines
    else if bytes_eq word (codes "status") then Some Status
    else if bytes_eq word (codes "journal") then Some Journal
    else None

-- a command for a page
abbrev pub page_of : Option Order → Option Word
page_of (Some (Orders.Journal from)) = Some (Page from)
page_of order = None

-- what a line asks of the console, if it does: a blank one nothing; nothing stands behind a word of its own
abbrev pub word_of : List (List ℕ) → Option Word
word_of [] = Some Blank
word_of (word ∷ []) = single word
word_of (word ∷ other ∷ others) = page_of (order_of (word ∷ other ∷ others))

-- Looks

-- asks that only look
abbrev pub IsLook : Ask → Type 0
IsLook (Ask.Read from) = Unit {0}
IsLook Ask.View = Unit {0}
IsLook ask = ⊥

-- the operator looks once, or asks nothing
abbrev pub Looks : Passing → Passing → Type 0
Looks v w = (w ≡ v) ⊎ ((ask : Ask) × (reply : Reply) × IsLook ask × Acted by Does v ask reply w)

-- nothing is shown, for want of memory or of an act
abbrev pub NotShown : Passing → LineFault → Passing → Type 0
NotShown v NoMemory w = NotViewed v PageFaults.NoMemory w
NotShown v Worn w = IsWorn v w
NotShown v (Write error) w = ⊥

-- what is shown of the host was asked, and a text of it is written
pub record Shows (text : Shown → List ℕ) (old new : Written) (v w : Passing) (result : Result Next LineFault) : Type 0 where
  pub view : Shown
  pub told : Acted by Does v Ask.View (Gives.Viewed view) w
  pub written : Writes old new (text view) result

-- the same, unless no act was left or there was no memory for it
abbrev pub ShowsOrWorn : (Shown → List ℕ) → Written → Written → Passing → Passing → Result Next LineFault → Type 0
ShowsOrWorn text old new v w (Err Worn) = NoActLeft old new v w
ShowsOrWorn text old new v w (Err NoMemory) =
    (NotViewed v PageFaults.NoMemory w × (new ≡ old)) ⊎ Shows text old new v w (Err NoMemory)
ShowsOrWorn text old new v w result = Shows text old new v w result

-- the next page begins behind this one; where that is empty, with the entry that it would have begun with before
abbrev pub behind_page : ℕ → ℕ → List Item → ℕ
behind_page old from page = if length page == 0 then old else min (from + length page) (2 ^ 64 - 1)

-- a page from an entry on was read, and the next one begins behind it
abbrev pub Turned : ℕ → ℕ → Passing → Passing → ℕ → Type 0
Turned old from v w next =
    (page : List Item) × Acted by Does v (Ask.Read from) (Gives.Read page) w × (next ≡ behind_page old from page)

-- unless there was none for want of memory or of an act
abbrev pub TurnsPage : ℕ → ℕ → Passing → Passing → ℕ → Result Next LineFault → Type 0
TurnsPage old from v w new (Err Worn) = new ≡ old
TurnsPage old from v w new (Err NoMemory) = (new ≡ old) ⊎ Turned old from v w new
TurnsPage old from v w new result = Turned old from v w new

-- with which entry the next page begins, before a word and behind it
abbrev pub Turns : ℕ → ℕ → Passing → Passing → Word → Result Next LineFault → Type 0
Turns old new v w Journal result = TurnsPage old old v w new result
Turns old new v w (Page from) result = TurnsPage old from v w new result
Turns old new v w word result = new ≡ old

-- What a word does at such a console, where these entries were counted. The list and the status are cut to its columns.
abbrev pub Answers : Written → Written → Passing → Passing → Screen → List Entry → Word → Result Next LineFault → Type 0
Answers old new v w screen entries Blank result = TellsCaller old new v w Go result
Answers old new v w screen entries Help result = WritesOnly old new v w help_text result
Answers old new v w screen entries Lines result = ShowsOrWorn (λ view. cut_text screen.columns (list_text view)) old new v w result
Answers old new v w screen entries Status result =
    ShowsOrWorn (λ view. cut_text screen.columns (status_text (catalogue_of w.seen) entries view)) old new v w result
Answers old new v w screen entries Journal result = ReadsOrWorn old new v w screen.next result
Answers old new v w screen entries (Page from) result = ReadsOrWorn old new v w from result
