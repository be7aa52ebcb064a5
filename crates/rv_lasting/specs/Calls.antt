-- The last queued call of each actor, as it is kept (own).
use Rattle.std.specs.Prelude.{◌≡◌, ℕ, nat_eq, List}
use Rattle.std.specs.HashMap.{get}
use Rattle.rv_event.specs.Past.{last_queued}
use Rattle.rv_event.specs.declared.entry.Entry.{Entry}
use Rattle.rv_lasting.specs.declared.calls.Calls.{Calls}

abbrev pub KeepsCalls : Calls → List Entry → Type 0
KeepsCalls calls past = (actor : ℕ) → get nat_eq calls.items actor ≡ last_queued actor past
