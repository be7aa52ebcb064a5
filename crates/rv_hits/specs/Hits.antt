-- How often each line of the lists of a history decided what the list was asked, and how often to grant (own).
use Rattle.std.specs.Prelude.{ℕ, suc, Bool, false, ◌&&◌, List, [], ◌∷◌, ◌++◌, length, codes, Option, Some, None, is_none}
use Rattle.std.specs.Str.{bytes_eq}
use Rattle.rv_access.specs.Lines.{allows}
use Rattle.rv_access.specs.Text.{line_text}
use Rattle.rv_access.specs.Words.{Words}
use Rattle.rv_event.specs.declared.entry.Body.{Body}
use Rattle.rv_history.specs.History.{History, force}
use Rattle.rv_refused.specs.Filters.{FilterText}
use Rattle.rv_asked.specs.Asked.{line_by, takes}
use Rattle.rv_asked.specs.Times.{times_in}
use Rattle.rv_tallied.specs.Tallies.{row_text, rows_text, with_words}
use Rattle.rv_tallied.specs.declared.tallies.Tally.{Tally}

-- Lines

-- words with those of the lines of a list, each where it isn't among them yet
abbrev pub with_lines : List (List ℕ) → List Words → List (List ℕ)
with_lines seen [] = seen
with_lines seen (line ∷ lines) = with_lines (with_words seen (line_text line)) lines

-- with those of lists
abbrev pub with_lists : List (List ℕ) → List (List Words) → List (List ℕ)
with_lists seen [] = seen
with_lists seen (list ∷ lists) = with_lists (with_lines seen list) lists

-- the words of the lines of lists, the oldest first, each once, in the order of their first appearance
abbrev pub words_of : List (List Words) → List (List ℕ)
words_of lists = with_lists [] lists

-- Tests

-- a line has these words
abbrev pub has_words : List ℕ → Option Words → Bool
has_words words None = false
has_words words (Some line) = bytes_eq (line_text line) words

-- the list in force is asked about a call that a filter takes, and the line that decides passes a test
abbrev pub passes : FilterText → (Option Words → Bool) → History → Option Body → Bool
passes filter test h None = false
passes filter test h (Some call) = takes filter h (suc (length h.past)) call && test (line_by (force h) h call)

-- whether the list in force grants what it is asked about
abbrev pub is_granted : History → Option Body → Bool
is_granted h None = false
is_granted h (Some call) = allows (line_by (force h) h call)

-- a line of these words decides
abbrev pub decides_by : FilterText → List ℕ → History → Option Body → Bool
decides_by filter words h asked = passes filter (has_words words) h asked

-- and grants
abbrev pub grants_by : FilterText → List ℕ → History → Option Body → Bool
grants_by filter words h asked = decides_by filter words h asked && is_granted h asked

-- no line decides
abbrev pub decides_none : FilterText → History → Option Body → Bool
decides_none filter h asked = passes filter is_none h asked

-- Rows

-- how often lines of these words decided, and how often to grant
abbrev pub tally_of : FilterText → History → List ℕ → Tally
tally_of filter h words = record {
  times = times_in (decides_by filter words) h;
  granted = times_in (grants_by filter words) h;
}

-- how often no line did; then nothing is granted
abbrev pub tally_of_none : FilterText → History → Tally
tally_of_none filter h = record { times = times_in (decides_none filter) h; granted = 0 }

-- a row for the lines of the same words, of all lists that were in force, and the last for no line
abbrev pub hits_text : FilterText → History → List ℕ
hits_text filter h =
    rows_text (codes "decided") (tally_of filter h) (words_of h.lists)
    ++ row_text (codes "decided") (codes "no line") (tally_of_none filter h)
