-- The access lists and the bodies of a history, and of one that begins with it. (own)
use Rattle.std.specs.Prelude.{◌≡◌, ℕ, ◌≤◌, List, reverse}
use Rattle.rv_access.specs.Words.{Words}
use Rattle.rv_history.specs.History.{changes}
use Rattle.rv_turn.specs.Histories.{StartsWith}
use Rattle.rv_behind.specs.Events.{marks, lists_of, bodies_at}
use Rattle.rv_behind.specs.declared.event.Event.{Event}

-- the lists of a history, in order; the last is in force (own)
abbrev pub lists_seen : List Event → List (List Words)
lists_seen log = lists_of (reverse log)

-- the version of the list in force: how many list changes there were (own)
abbrev pub version_seen : List Event → ℕ
version_seen log = changes (marks (reverse log))

-- The list in force in the second history is the one in force in the first, or a later one. (own)
pub record NoEarlierList (seen at : List Event) : Type 0 where
  pub lists : StartsWith (lists_seen at) (lists_seen seen)
  pub version : version_seen seen ≤ version_seen at
  pub same : version_seen at ≡ version_seen seen → lists_seen at ≡ lists_seen seen

-- The bodies of the second history have those of the first, by the same numbers. (own)
pub record KeepsBodies (seen at : List Event) : Type 0 where
  pub objects : StartsWith (bodies_at at).objects (bodies_at seen).objects
  pub tasks : StartsWith (bodies_at at).tasks (bodies_at seen).tasks
