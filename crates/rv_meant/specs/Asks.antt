-- What an actor asks, in order, with the answers: what its asks leave held, and which of them have entries (own).
use Rattle.std.specs.Prelude.{◌≡◌, ◌<◌, ℕ, suc, ◌-◌, Bool, true, false, [], ◌∷◌, ◌++◌, Some, is_some}
use Rattle.rv_event.specs.Recorded.{recorded}
use Rattle.rv_event.specs.declared.entry.Answer.{Answer}
use Rattle.rv_event.specs.declared.entry.Answer.TheVariants as answer
use Rattle.rv_event.specs.declared.entry.Exit.TheVariants as exit
use Rattle.rv_event.specs.declared.entry.Request.{Request}
use Rattle.rv_event.specs.declared.entry.Request.TheVariants as request
use Rattle.rv_exec.specs.Asking.{Trace}
use Rattle.rv_exec.specs.Stops.{is_final}

-- How much is held

-- how many objects an actor holds behind an answer to it: a start is answered by Started, or after a wait in a queue by Woken
-- with the components; an end by Done (9.5.1, 9.5.3)
abbrev pub held_after : ℕ → Answer → ℕ
held_after held (answer.Started components) = suc held
held_after held (answer.Woken (Some components)) = suc held
held_after held (answer.Done next) = held - 1
held_after held other = held

-- the same behind all these asks, of an actor that held so many before
abbrev pub held_behind : ℕ → Trace → ℕ
held_behind held [] = held
held_behind held (pair ∷ more) = held_behind (held_after held pair.1) more

-- Each body that started in these asks has ended in them, and none else: they leave as many objects held as before, however many
-- these are.
abbrev pub IsWhole : Trace → Type 0
IsWhole trace = (held : ℕ) → held_behind held trace ≡ held

-- more is held behind these asks than before, however many objects that are: a body that started in them goes on
abbrev pub HoldsMore : Trace → Type 0
HoldsMore trace = (held : ℕ) → held < held_behind held trace

-- Which asks have entries

-- all of them
abbrev pub AreRecorded : Trace → Type 0
AreRecorded [] = Unit {0}
AreRecorded (pair ∷ more) = (is_some (recorded pair.1) ≡ true) × AreRecorded more

-- those that have
abbrev pub recorded_if : Bool → Request × Answer → Trace → Trace
recorded_if true pair more = pair ∷ more
recorded_if false pair more = more

abbrev pub recorded_of : Trace → Trace
recorded_of [] = []
recorded_of (pair ∷ more) = recorded_if (is_some (recorded pair.1)) pair (recorded_of more)

-- the end of a body by stopped
abbrev pub is_stopped_end : Request → Bool
is_stopped_end (request.Complete components exit.Stopped) = true
is_stopped_end other = false

-- all of these asks are ends of bodies by stopped, and have entries
abbrev pub AreStoppedEnds : Trace → Type 0
AreStoppedEnds [] = Unit {0}
AreStoppedEnds (pair ∷ more) = (is_stopped_end pair.0 ≡ true) × (is_some (recorded pair.1) ≡ true) × AreStoppedEnds more

-- One of these asks has no entry, by which they were cut off: the host is halted, or has no room. Behind it come the ends, by
-- stopped, of the bodies that called one another.
pub record IsCutOff (trace : Trace) : Type 0 where
  pub before : Trace
  pub request : Request
  pub answer : Answer
  pub behind : Trace
  pub trace_is : trace ≡ before ++ (request, answer) ∷ behind
  pub recorded : AreRecorded before
  pub final : is_final answer ≡ true
  pub ends : AreStoppedEnds behind

-- what is asked by a run that stopped, or didn't
abbrev pub IsCourse : Bool → Trace → Type 0
IsCourse true trace = IsCutOff trace
IsCourse false trace = AreRecorded trace
