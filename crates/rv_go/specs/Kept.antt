-- What is kept of what actors have heard (own).
use Rattle.std.specs.Prelude.{◌≡◌, ◌≤◌, ◌<◌, ℕ, true, List, [], All, length, get_or, is_none, Option}
use Rattle.std.specs.Option.{ForSome}
use Rattle.rv_event.specs.declared.entry.Answer.{Answer}
use Rattle.rv_code.specs.Bodies.{UnitBodies}
use Rattle.rv_flat.specs.FlatUnits.{flat_view}
use Rattle.rv_go.specs.declared.listening.Listener.{Listener}
use Rattle.rv_go.specs.declared.run.Run.{Run}
use Rattle.rv_go.specs.declared.run.Text.{Text}
use Rattle.rv_go.specs.declared.running.Running.{Running}
use Rattle.rv_go.specs.declared.texts.Heard.{Heard}
use Rattle.rv_go.specs.Runs.{asked_by, heard_by, Follows}

-- of all answers of an actor these are kept: all where no machine goes on by them, else those behind where a machine stands, over
-- the table that there is
pub record Keeps (running : Option Running) (budget : ℕ) (all : List Answer) (actor : ℕ) (kept : List Answer) (machine : Option Run) : Type 0 where
  pub whole : is_none machine ≡ true → kept ≡ all
  pub table : is_none running ≡ true → is_none machine ≡ true
  pub follows : ForSome running (λ r. ForSome machine (λ run. Follows r.table budget all actor kept run))

abbrev pub Listens : Option Running → ℕ → List Heard → Listener → Type 0
Listens running budget heard l = Keeps running budget (heard_by l.actor heard) l.actor l.answers.items l.run

-- all answers of an actor are kept
abbrev pub IsWhole : List Heard → Listener → Type 0
IsWhole heard l = l.answers.items ≡ heard_by l.actor heard

-- actors stand in the order of their numbers, and who isn't there has heard nothing
pub record AreNumbered (heard : List Heard) (ls : List Listener) : Type 0 where
  pub actors : (n : ℕ) (default : Listener) → n < length ls → (get_or ls n default).actor ≡ n
  pub others : (actor : ℕ) → length ls ≤ actor → heard_by actor heard ≡ []

-- each text goes on by what is kept, and while units may be loaded all is
pub record AreKept (budget awaited : ℕ) (heard : List Heard) (running : Option Running) (ls : List Listener) : Type 0 where
  pub numbered : AreNumbered heard ls
  pub listen : All (Listens running budget heard) ls
  pub whole : 0 < awaited → All (IsWhole heard) ls

-- the table is that of the bodies that are loaded: over it each text asks what it asks by these
pub record IsKept (bodies : UnitBodies) (budget awaited : ℕ) (heard : List Heard) (running : Option Running) (ls : List Listener) : Type 0 where
  pub same : ForSome running (λ r. (text : Text) (given : List Answer) → asked_by (flat_view r.table) budget text given ≡ asked_by bodies budget text given)
  pub kept : AreKept budget awaited heard running ls
