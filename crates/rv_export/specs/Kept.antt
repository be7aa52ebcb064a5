-- What is kept of a history, to know what an entry follows from (own).
use Rattle.std.specs.Prelude.{◌≡◌, ℕ, suc, nat_eq, List, ◌∷◌, length}
use Rattle.std.specs.HashMap.{get}
use Rattle.std.specs.Option.{option_map}
use Rattle.rv_access.specs.Words.{Words}
use Rattle.rv_event.specs.Past as past
use Rattle.rv_event.specs.declared.entry.Entry.{Entry}
use Rattle.rv_history.specs.History.{History}
use Rattle.rv_history.specs.Journal.{lists_before}
use Rattle.rv_refused.specs.Kept.{words_in}
use Rattle.rv_refused.specs.Refusals.{dropping_words}
use Rattle.rv_asked.specs.Holding as held
use Rattle.rv_lasting.specs.Calls.{KeepsCalls}
use Rattle.rv_lasting.specs.Lasting.{since}
use Rattle.rv_lasting.specs.Tracks.{closed, opened}
use Rattle.rv_waits.specs.Lasting.{Bodies, lasting}
use Rattle.rv_export.specs.Exports.{last_left}
use Rattle.rv_export.specs.declared.drops.Drops.{Drops}
use Rattle.rv_export.specs.declared.kept.Kept.{Kept}
use Rattle.rv_export.specs.declared.left.Left.{Left}

-- the newest entry that left each actor waiting
abbrev pub KeepsLeft : Left → List Entry → Type 0
KeepsLeft left before = (actor : ℕ) → get nat_eq left.items actor ≡ last_left actor before

-- the words of the line by which each actor was last dropped
abbrev pub KeepsDrops : Drops → List Entry → List (List Words) → Type 0
KeepsDrops drops before lists = (actor : ℕ) → words_in (get nat_eq drops.items actor) ≡ dropping_words actor before lists

-- what is kept is what there is behind a history
pub record Keeps (it : Kept) (h : History) : Type 0 where
  pub holding : held.Keeps it.holding h.shapes h.past
  pub calls : KeepsCalls it.calls h.past
  pub bodies : it.bodies.begun ≡ lasting Bodies h.shapes h.past
  pub left : KeepsLeft it.left h.past
  pub drops : KeepsDrops it.drops h.past h.lists

-- but that the next entry has ended its body
pub record KeepsBut (it : Kept) (h : History) (entry : Entry) : Type 0 where
  pub holding : held.Keeps it.holding h.shapes h.past
  pub calls : KeepsCalls it.calls h.past
  pub bodies : it.bodies.begun ≡ closed (past.ended entry) (lasting Bodies h.shapes h.past)
  pub left : KeepsLeft it.left h.past
  pub drops : KeepsDrops it.drops h.past h.lists

-- the body that an entry of this number begins is noted
pub record NotesBody (old new : Kept) (h : History) (number : ℕ) (entry : Entry) : Type 0 where
  pub bodies : KeepsCalls old.calls h.past
      → new.bodies.begun ≡ opened (option_map (since number (past.clock h.past)) (past.started h.shapes h.past entry)) old.bodies.begun
  pub rest : new ≡ record old { bodies = new.bodies }

-- and the rest
pub record NotesRest (old new : Kept) (h : History) (number : ℕ) (entry : Entry) : Type 0 where
  pub holding : held.Keeps old.holding h.shapes h.past → held.Keeps new.holding h.shapes (entry ∷ h.past)
  pub calls : KeepsCalls old.calls h.past → KeepsCalls new.calls (entry ∷ h.past)
  pub left : KeepsLeft old.left h.past → number ≡ suc (length h.past) → KeepsLeft new.left (entry ∷ h.past)
  pub drops : KeepsDrops old.drops h.past h.lists → lists_before entry h.lists ≡ h.lists → KeepsDrops new.drops (entry ∷ h.past) h.lists
  pub rest : new ≡ record old { holding = new.holding; calls = new.calls; left = new.left; drops = new.drops }

-- a request with its answer is noted, the entry of this number, which has ended its body
abbrev pub Notes : Kept → Kept → History → ℕ → Entry → Type 0
Notes old new h number entry =
    KeepsBut old h entry → number ≡ suc (length h.past) → Keeps new (record h { past = entry ∷ h.past })
