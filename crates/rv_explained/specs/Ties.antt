-- What ties entries to one another: which list was in force since when, and how a caller left its queue (own).
use Rattle.std.specs.Prelude.{◌≡◌, ℕ, suc, ◌==◌, nat_eq, Bool, false, if◌then◌else◌, List, [], ◌∷◌, length, string_bytes, Option, Some, None}
use Rattle.std.specs.HashMap.{get}
use Rattle.rv_access.specs.Words.{Words}
use Rattle.rv_event.specs.Past.{is_list, next_of}
use Rattle.rv_event.specs.declared.entry.Entry.{Entry}
use Rattle.rv_event.specs.declared.entry.Next.{Next}
use Rattle.rv_event.specs.declared.entry.Next.TheVariants.{Dropped}
use Rattle.rv_refused.specs.Refusals.{dropping_words}
use Rattle.rv_explained.specs.declared.drops.Drops.{Drops}
use Rattle.rv_explained.specs.declared.drops.DroppedBy.{DroppedBy}

-- the number of the entry that brought the list in force, 0 where none was set
abbrev pub list_since : List Entry → ℕ
list_since [] = 0
list_since (entry ∷ past) = if is_list entry then suc (length past) else list_since past

-- an actor is dropped from a queue (9.5.3)
abbrev pub is_dropped : ℕ → Next → Bool
is_dropped actor (Dropped named line) = named == actor
is_dropped actor next = false

-- the number of the entry that last dropped an actor, 0 where none did
abbrev pub drop_entry : ℕ → List Entry → ℕ
drop_entry actor [] = 0
drop_entry actor (entry ∷ past) = if is_dropped actor (next_of entry) then suc (length past) else drop_entry actor past

-- that of the entry that brought the list that was in force then
abbrev pub drop_list : ℕ → List Entry → ℕ
drop_list actor [] = 0
drop_list actor (entry ∷ past) = if is_dropped actor (next_of entry) then list_since past else drop_list actor past

-- How that is kept

abbrev pub entry_in : Option DroppedBy → ℕ
entry_in None = 0
entry_in (Some it) = it.number

abbrev pub list_in : Option DroppedBy → ℕ
list_in None = 0
list_in (Some it) = it.list_entry

abbrev pub line_in : Option DroppedBy → List ℕ
line_in None = []
line_in (Some it) = string_bytes it.line

-- how each actor was last dropped
pub record KeepsDrops (it : Drops) (past : List Entry) (lists : List (List Words)) : Type 0 where
  pub numbers : (actor : ℕ) → entry_in (get nat_eq it.items actor) ≡ drop_entry actor past
  pub since : (actor : ℕ) → list_in (get nat_eq it.items actor) ≡ drop_list actor past
  pub lines : (actor : ℕ) → line_in (get nat_eq it.items actor) ≡ dropping_words actor past lists
