-- How an explanation follows a journal, entry by entry (own).
use Rattle.std.specs.Prelude.{◌≡◌, ℕ, suc, List, [], ◌∷◌, ◌++◌, ◌==◌, if◌then◌else◌, length, string_bytes}
use Rattle.std.specs.Option.{option_map}
use Rattle.rv_event.specs.Past as past
use Rattle.rv_event.specs.Text.{entry_line}
use Rattle.rv_event.specs.declared.entry.Entry.{Entry}
use Rattle.rv_event.specs.declared.entry.Recorded.{Recorded}
use Rattle.rv_event.specs.declared.entry.Request.{Request}
use Rattle.rv_history.specs.History.{History}
use Rattle.rv_history.specs.Journal.{lists_before}
use Rattle.rv_lasting.specs.Calls.{KeepsCalls}
use Rattle.rv_lasting.specs.Lasting.{since, waiting_by}
use Rattle.rv_lasting.specs.Tracks.{closed, ended, opened}
use Rattle.rv_asked.specs.Holding.{Keeps}
use Rattle.rv_waits.specs.Lasting.{Waits, Bodies, freed_by, lasting}
use Rattle.rv_explained.specs.Explanations.{later_body, later_wait, said_of, says_of, tick_line, why_by}
use Rattle.rv_explained.specs.Ties.{KeepsDrops, list_since}
use Rattle.rv_explained.specs.declared.explained.Explained.{Explained}
use Rattle.rv_explained.specs.declared.ties.Ends.{Ends}
use Rattle.rv_explained.specs.declared.ties.Ties.{Ties}

-- what is kept is what there is behind a history
pub record KeepsTies (it : Ties) (h : History) : Type 0 where
  pub holding : Keeps it.holding h.shapes h.past
  pub calls : KeepsCalls it.calls h.past
  pub waits : it.waits.begun ≡ lasting Waits h.shapes h.past
  pub bodies : it.bodies.begun ≡ lasting Bodies h.shapes h.past
  pub drops : KeepsDrops it.drops h.past h.lists
  pub list_entry : it.list_entry ≡ list_since h.past

-- what the next entry ends, by what is kept
pub record EndsAre (it : Ties) (h : History) (entry : Entry) (ends : Ends) : Type 0 where
  pub wait : ends.wait ≡ ended (freed_by h.past entry) it.waits.begun
  pub body : ends.body ≡ ended (past.ended entry) it.bodies.begun

-- the waits that an entry of this number begins and ends are noted
pub record NotesWaits (old new : Ties) (h : History) (number : ℕ) (entry : Entry) : Type 0 where
  pub waits : new.waits.begun
      ≡ opened (option_map (since number (past.clock h.past)) (waiting_by entry)) (closed (freed_by h.past entry) old.waits.begun)
  pub rest : new ≡ record old { waits = new.waits }

-- the bodies
pub record NotesBodies (old new : Ties) (h : History) (number : ℕ) (entry : Entry) : Type 0 where
  pub bodies : KeepsCalls old.calls h.past → new.bodies.begun
      ≡ opened (option_map (since number (past.clock h.past)) (past.started h.shapes h.past entry)) (closed (past.ended entry) old.bodies.begun)
  pub rest : new ≡ record old { bodies = new.bodies }

-- and the rest
pub record NotesRest (old new : Ties) (h : History) (number : ℕ) (entry : Entry) : Type 0 where
  pub drops : KeepsDrops old.drops h.past h.lists → number ≡ suc (length h.past) → old.list_entry ≡ list_since h.past
      → lists_before entry h.lists ≡ h.lists → KeepsDrops new.drops (entry ∷ h.past) h.lists
  pub holding : Keeps old.holding h.shapes h.past → Keeps new.holding h.shapes (entry ∷ h.past)
  pub calls : KeepsCalls old.calls h.past → KeepsCalls new.calls (entry ∷ h.past)
  pub rest : new ≡ record old { drops = new.drops; holding = new.holding; calls = new.calls }

-- a request with its answer is noted, the entry of this number
abbrev pub NotesTies : Ties → Ties → History → ℕ → Entry → Type 0
NotesTies old new h number entry =
    KeepsTies old h → number ≡ suc (length h.past) → KeepsTies new (record h { past = entry ∷ h.past })

-- what is said so far of the entry that is asked about
pub record Follows (begun it : Explained) (h : History) : Type 0 where
  pub entry : it.entry ≡ begun.entry
  pub used : it.used ≡ length h.past
  pub ties : KeepsTies it.ties h
  pub text : string_bytes it.text ≡ said_of begun.entry h

-- the request that is asked about is put with its answer, with this line, where it ends this
abbrev pub PutsAsked : Explained → Explained → History → ℕ → Request → Recorded → List ℕ → Ends → Type 0
PutsAsked old new h actor request word line ends =
    KeepsTies old.ties h
    → string_bytes new.text ≡ string_bytes old.text ++ (line ++ (tick_line h ++ why_by h actor request word ends.body ends.wait))

-- what a later entry of this number and with this line ends is put
abbrev pub PutsLater : Explained → Explained → History → ℕ → Entry → List ℕ → Ends → Type 0
PutsLater old new h number entry line ends =
    KeepsTies old.ties h → string_bytes new.text ≡ string_bytes old.text
    ++ (later_wait old.entry h number (past.next_of entry) line ends.wait ++ later_body old.entry h number line ends.body)

-- what an entry of this number says is put
pub record Puts (old new : Explained) (h : History) (number : ℕ) (entry : Entry) (unit list : List ℕ) : Type 0 where
  pub text : KeepsTies old.ties h → number ≡ suc (length h.past)
      → string_bytes new.text ≡ string_bytes old.text ++ says_of old.entry h entry unit list
  pub rest : new ≡ record old { text = new.text }

-- a request with its answer is looked at as the next entry of a history
abbrev pub Looks : Explained → Explained → History → ℕ → Entry → Type 0
Looks old new h number entry =
    (begun : Explained) → Follows begun old h → number ≡ suc (length h.past) → Follows begun new (record h { past = entry ∷ h.past })

-- the mark of a load or of a list change is looked at, as the entry of this number
pub record LooksAtMark (old new : Explained) (h : History) (number : ℕ) (entry : Entry) (unit list : List ℕ) : Type 0 where
  pub text : KeepsTies old.ties h → number ≡ suc (length h.past) → string_bytes new.text ≡ string_bytes old.text
      ++ (if number == old.entry then entry_line h.shapes number entry unit list ++ tick_line h else [])
  pub rest : new ≡ record old { text = new.text; used = number }
