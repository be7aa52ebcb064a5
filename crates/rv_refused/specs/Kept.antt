-- What is kept of each actor, and the past that it stands for (own).
use Rattle.std.specs.Prelude.{◌≡◌, ℕ, nat_eq, List, [], Option, Some, None, String, string_bytes}
use Rattle.std.specs.HashMap.{get}
use Rattle.rv_access.specs.Words.{Words}
use Rattle.rv_event.specs.declared.entry.Entry.{Entry}
use Rattle.rv_event.specs.declared.entry.Next.{Next}
use Rattle.rv_event.specs.declared.entry.Next.TheVariants.{Dropped}
use Rattle.rv_lasting.specs.Calls.{KeepsCalls}
use Rattle.rv_refused.specs.declared.kept.Kept.{Kept}
use Rattle.rv_refused.specs.Refusals.{dropping_words}

-- the words of a text, if there is one
abbrev pub words_in : {A : Type 0} → Option (String A) → List ℕ
words_in None = []
words_in (Some text) = string_bytes text

-- each actor has the words of the line by which it was last dropped
abbrev pub KeepsDrops : Kept → List Entry → List (List Words) → Type 0
KeepsDrops kept past lists = (actor : ℕ) → words_in (get nat_eq kept.drops actor) ≡ dropping_words actor past lists

-- and its last queued call
pub record Keeps (kept : Kept) (past : List Entry) (lists : List (List Words)) : Type 0 where
  pub calls : KeepsCalls kept.calls past
  pub drops : KeepsDrops kept past lists

-- the number of the line that drops a caller, 0 where nobody is dropped
abbrev pub dropping_number : Next → ℕ
dropping_number (Dropped actor line) = line
dropping_number next = 0
