-- How a review of hits follows a journal, entry by entry (own).
use Rattle.std.specs.Prelude.{◌≡◌, ℕ, suc, Bool, if◌then◌else◌, List, ◌∷◌, length, map, string_bytes, Option, Some, None, is_none}
use Rattle.rv_access.specs.Lines.{allows}
use Rattle.rv_access.specs.Words.{Words}
use Rattle.rv_shape.specs.Shape.{Shape}
use Rattle.rv_event.specs.declared.entry.Body.{Body}
use Rattle.rv_event.specs.declared.entry.Entry.{Entry}
use Rattle.rv_history.specs.History.{History, force}
use Rattle.rv_reading.specs.Told.{Told, Lists, Loads}
use Rattle.rv_refused.specs.Filters.{FilterText}
use Rattle.rv_refused.specs.Looking.{WillHold}
use Rattle.rv_asked.specs.Asked.{line_by, takes}
use Rattle.rv_asked.specs.Holding.{Keeps}
use Rattle.rv_asked.specs.Tabled.{IsTabled}
use Rattle.rv_asked.specs.Times.{times_in}
use Rattle.rv_hits.specs.Counts.{AreOf, joined}
use Rattle.rv_hits.specs.Hits.{decides_none, has_words, tally_of, with_lines, words_of}
use Rattle.rv_hits.specs.declared.hits.Hits.{Hits}
use Rattle.rv_tallied.specs.Tallies.{kept_for, once_more, one_more}
use Rattle.rv_tallied.specs.declared.tallies.Tally.{Tally}

-- what is counted for words: what is kept for them, and what the lines of the list in force that have them decided since it came
abbrev pub counted_for : Hits → List ℕ → Tally
counted_for it words = joined it.counts.items words (kept_for it.tallies words)

-- what is kept is what there is behind a history
pub record Gathers (filter : FilterText) (it : Hits) (h : History) : Type 0 where
  pub taken : it.filter ≡ filter
  pub holding : Keeps it.holding h.shapes h.past
  pub words : map string_bytes it.words.items ≡ words_of h.lists
  pub counts : AreOf it.counts.items (force h)
  pub tallies : (words : List ℕ) → counted_for it words ≡ tally_of filter h words
  pub unmatched : it.unmatched ≡ times_in (decides_none filter) h

-- and so is the table of the list in force
pub record Follows (filter : FilterText) (it : Hits) (h : History) : Type 0 where
  pub gathers : Gathers filter it h
  pub tabled : IsTabled it.tabled h

-- Before a list change it gathers what is before it; else it awaits what a line tells, and the table of a load comes behind it.
abbrev pub Awaits : FilterText → Hits → List Shape → History → Told → Type 0
Awaits filter it units h (Lists actor text answer) = Gathers filter it h
Awaits filter it units h (Loads actor name answer) = WillHold (Gathers filter it) units h (Loads actor name answer)
Awaits filter it units h told = WillHold (Follows filter it) units h told

-- what is counted for words once this line decided, if one did
abbrev pub tallied : Option Words → List ℕ → Tally → Tally
tallied line words tally = if has_words words line then once_more (allows line) tally else tally

-- how often none did
abbrev pub unmatched : Option Words → ℕ → ℕ
unmatched line number = if is_none line then one_more number else number

-- a line of a list decided, or none did
pub record CountsLine (old new : Hits) (list : List Words) (line : Option Words) : Type 0 where
  pub rest : new ≡ record old { counts = new.counts; unmatched = new.unmatched }
  pub counts : AreOf new.counts.items list
  pub tallies : (words : List ℕ) → counted_for new words ≡ tallied line words (counted_for old words)
  pub unmatched : new.unmatched ≡ unmatched line old.unmatched

-- the same, if that is taken
pub record CountsTaken (old new : Hits) (list : List Words) (taken : Bool) (line : Option Words) : Type 0 where
  pub rest : new ≡ record old { counts = new.counts; unmatched = new.unmatched }
  pub counts : AreOf new.counts.items list
  pub tallies : (words : List ℕ) →
      counted_for new words ≡ (if taken then tallied line words (counted_for old words) else counted_for old words)
  pub unmatched : new.unmatched ≡ (if taken then unmatched line old.unmatched else old.unmatched)

-- what the list is asked about this call is counted, if it is asked
abbrev pub CountsCall : Hits → Hits → History → ℕ → Option Body → Type 0
CountsCall old new h number None = new ≡ old
CountsCall old new h number (Some call) =
    Keeps old.holding h.shapes h.past → AreOf old.counts.items (force h) → IsTabled old.tabled h
    → CountsTaken old new (force h) (takes old.filter h number call) (line_by (force h) h call)

-- what the lines of the list in force decided is added to what is kept for their words
pub record Joins (old new : Hits) : Type 0 where
  pub tallies : (words : List ℕ) → kept_for new.tallies words ≡ counted_for old words
  pub rest : new ≡ record old { tallies = new.tallies }

-- a list of these lines comes in force
pub record SeesLines (old new : Hits) (list : List Words) : Type 0 where
  pub words : map string_bytes new.words.items ≡ with_lines (map string_bytes old.words.items) list
  pub counts : AreOf new.counts.items list
  pub tallies : (words : List ℕ) → counted_for new words ≡ counted_for old words
  pub rest : new ≡ record old { words = new.words; counts = new.counts; tallies = new.tallies }

-- the table is of the list in force
pub record Renews (old new : Hits) (h : History) : Type 0 where
  pub tabled : IsTabled new.tabled h
  pub rest : new ≡ record old { tabled = new.tabled }

-- the list in force has come
pub record Sees (old new : Hits) (h : History) : Type 0 where
  pub words : map string_bytes new.words.items ≡ with_lines (map string_bytes old.words.items) (force h)
  pub counts : AreOf new.counts.items (force h)
  pub tallies : (words : List ℕ) → counted_for new words ≡ counted_for old words
  pub tabled : IsTabled new.tabled h
  pub rest : new ≡ record old { words = new.words; counts = new.counts; tallies = new.tallies; tabled = new.tabled }

-- an entry is looked at as the next one of a history
abbrev pub Looks : Hits → Hits → History → ℕ → Entry → Type 0
Looks old new h number entry =
    (filter : FilterText) → Follows filter old h → number ≡ suc (length h.past) → Follows filter new (record h { past = entry ∷ h.past })
