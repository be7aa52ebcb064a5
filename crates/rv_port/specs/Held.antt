-- What a port's actor asked, and holds, by what the port has seen (9.5.1, own).
use Rattle.std.specs.Prelude.{◌≡◌, ℕ, if◌then◌else◌, ◌++◌}
use Rattle.rv_turn.specs.Histories.{mine}
use Rattle.rv_event.specs.declared.entry.Answer.{Answer}
use Rattle.rv_event.specs.declared.entry.Request.{Request}
use Rattle.rv_exec.specs.Asking.{Trace}
use Rattle.rv_meant.specs.Asks.{held_after, held_behind}
use Rattle.rv_meant.specs.Settles.{is_settle}
use Rattle.rv_behind.specs.Events.{by}
use Rattle.rv_accounts.specs.Seen.{asked_at}
use Rattle.rv_port.specs.Traces.{Passing, limits_in}

-- what the actor asked so far but the settles, with the answers (own)
abbrev pub asked_so_far : Passing → Trace
asked_so_far v = asked_at (limits_in v.about) v.actor v.seen

-- how many objects the actor holds (9.5.1)
abbrev pub held_by : Passing → ℕ
held_by v = held_behind 0 (asked_so_far v)

-- the same behind one request more: a settle ends no body
abbrev pub held_past : Request → ℕ → Answer → ℕ
held_past request held answer = if is_settle request then held else held_after held answer

-- a port's own events are its actor's in all that it has seen (own)
abbrev pub Owns : Passing → Type 0
Owns v = mine by v.actor v.seen ≡ v.base ++ v.own
