-- The last queued call of each actor (9.5.3, own).
use Rattle.std.specs.Prelude.{◌≡◌, ℕ, List, Option, None, slice_index_or}
use Rattle.rv_event.specs.Past.{last_queued}
use Rattle.rv_event.specs.declared.entry.Body.{Body}
use Rattle.rv_event.specs.declared.entry.Entry.{Entry}

-- each actor has its last queued call
abbrev pub AreCalls : List Entry → List (Option Body) → Type 0
AreCalls past calls = (actor : ℕ) → slice_index_or calls actor None ≡ last_queued actor past
