-- The version of the access list when an actor was last spoken of (own).
use Rattle.std.specs.Prelude.{◌≡◌, ℕ, List, Option, Some, None, slice_index_or, slice_set}
use Rattle.rv_event.specs.Past.{until_then}
use Rattle.rv_event.specs.declared.entry.Entry.{Entry}
use Rattle.rv_event.specs.declared.entry.Entry.TheVariants.{Asked}
use Rattle.rv_history.specs.History.{changes}

-- the actor whose request an entry is, if it is one's
abbrev pub asker : Entry → Option ℕ
asker (Asked actor request answer) = Some actor
asker entry = None

-- the version before the last entry that is the actor's own, or names it
abbrev pub version_then : ℕ → List Entry → ℕ
version_then actor past = changes (until_then actor past)

-- each actor has that version
abbrev pub AreVersions : List Entry → List ℕ → Type 0
AreVersions past versions = (actor : ℕ) → slice_index_or versions actor 0 ≡ version_then actor past

-- the versions with that of an actor, if there is such a one, changed
abbrev pub with_version : Option ℕ → ℕ → List ℕ → List ℕ
with_version None version versions = versions
with_version (Some actor) version versions = slice_set versions actor version
