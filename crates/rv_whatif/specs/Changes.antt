-- What another list would have decided otherwise, entry by entry (own). Nothing is carried on from a changed decision: each entry is
-- judged where it stands in the history, for the subject and at the clock that it had there.
use Rattle.std.specs.Prelude.{ℕ, suc, Bool, true, false, ◌&&◌, not, List, [], ◌∷◌, ◌++◌, length, codes, Option, Some, None}
use Rattle.std.specs.Fmt.{decimal}
use Rattle.std.specs.Str.{bytes_eq}
use Rattle.rv_access.specs.Lines.{allows}
use Rattle.rv_access.specs.Words.{Words}
use Rattle.rv_shape.specs.Catalogue.{target, who}
use Rattle.rv_shape.specs.Printed.{actor_text, target_text}
use Rattle.rv_shape.specs.Shape.{Shape}
use Rattle.rv_event.specs.Past.{clock}
use Rattle.rv_event.specs.declared.entry.Body.{Body}
use Rattle.rv_event.specs.declared.entry.Entry.{Entry}
use Rattle.rv_history.specs.declared.limits.Limits.{Limits}
use Rattle.rv_history.specs.History.{History, force}
use Rattle.rv_history.specs.Journal.{lists_before, shapes_before}
use Rattle.rv_history.specs.Subject.{subject}
use Rattle.rv_refused.specs.Filters.{FilterText}
use Rattle.rv_refused.specs.Refusals.{before_last}
use Rattle.rv_grants.specs.Grants.{decision_text}
use Rattle.rv_asked.specs.Asked.{asked_at, asking_text, line_by, takes}
use Rattle.rv_asked.specs.Times.{times_in}
use Rattle.rv_tallied.specs.Tallies.{row_text, rows_text, with_words}
use Rattle.rv_tallied.specs.declared.tallies.Tally.{Tally}

-- one of two is so, and not the other
abbrev pub is_one_of : Bool → Bool → Bool
is_one_of true other = not other
is_one_of false other = other

-- the list in force grants a call behind a history, and this list doesn't, or the other way round
abbrev pub differs : List Words → History → Body → Bool
differs list h call = is_one_of (allows (line_by (force h) h call)) (allows (line_by list h call))

-- the list in force is asked about this call behind a history, a filter takes that, and this list decides it otherwise
abbrev pub is_changed : FilterText → List Words → History → Option Body → Bool
is_changed filter list h None = false
is_changed filter list h (Some call) = takes filter h (suc (length h.past)) call && differs list h call

-- Lines

-- what this list would decide of a call behind a history, and what was decided, each with its line
abbrev pub decisions_text : List Words → History → Body → List ℕ
decisions_text list h call = decision_text (line_by list h call) ++ (codes ", was " ++ decision_text (line_by (force h) h call))

-- the line of an entry of this number that asks about a call behind a history
abbrev pub line_of : List Words → History → ℕ → Entry → Body → List ℕ
line_of list h number entry call =
    decimal number ++ (codes " tick " ++ (decimal (clock h.past) ++ 32 ∷ (actor_text (who h.shapes call.actor) ++ 32 ∷ (asking_text entry
    ++ (target_text (target h.shapes call.object call.operation) ++ (codes " -> " ++ (decisions_text list h call ++ 10 ∷ [])))))))

abbrev pub line_if : Bool → List Words → History → ℕ → Entry → Option Body → List ℕ
line_if false list h number entry call = []
line_if true list h number entry None = []
line_if true list h number entry (Some call) = line_of list h number entry call

-- the line of an entry behind a history, where its decision is changed
abbrev pub change_of : FilterText → List Words → History → Entry → List ℕ
change_of filter list h entry =
    let asked : Option Body = asked_at h.shapes h.past entry in
    line_if (is_changed filter list h asked) list h (suc (length h.past)) entry asked

-- the lines of the entries whose decisions are changed, in the order of the entries, which come the newest first
abbrev pub changes_in : FilterText → List Words → Limits → List Entry → List Shape → List (List Words) → List ℕ
changes_in filter list limits [] shapes lists = []
changes_in filter list limits (entry ∷ past) shapes lists =
    changes_in filter list limits past (shapes_before entry shapes) (lists_before entry lists)
    ++ change_of filter list (before_last limits entry past shapes lists) entry

-- Rows

-- whose call it is, for the list, and of what
abbrev pub call_text : History → Body → List ℕ
call_text h call = subject h call.actor ++ 32 ∷ target_text (target h.shapes call.object call.operation)

-- of a call that is asked about, if one is
abbrev pub call_words : History → Option Body → List ℕ
call_words h None = []
call_words h (Some call) = call_text h call

-- whether a list grants a call, if it is asked about one
abbrev pub is_granted : List Words → History → Option Body → Bool
is_granted list h None = false
is_granted list h (Some call) = allows (line_by list h call)

-- the decision about a call of these words is changed
abbrev pub is_of : FilterText → List Words → List ℕ → History → Option Body → Bool
is_of filter list words h asked = is_changed filter list h asked && bytes_eq (call_words h asked) words

-- and this list grants it
abbrev pub is_granted_of : FilterText → List Words → List ℕ → History → Option Body → Bool
is_granted_of filter list words h asked = is_of filter list words h asked && is_granted list h asked

-- how many decisions about calls of these words are changed, and how many of them to grant
abbrev pub tally_of : FilterText → List Words → History → List ℕ → Tally
tally_of filter list h words = record {
  times = times_in (is_of filter list words) h;
  granted = times_in (is_granted_of filter list words) h;
}

-- with those of one more, where its decision is changed
abbrev pub with_call : Bool → List (List ℕ) → List ℕ → List (List ℕ)
with_call false seen words = seen
with_call true seen words = with_words seen words

-- the calls whose decisions are changed, each once, in the order in which they come first
abbrev pub calls_in : FilterText → List Words → Limits → List Entry → List Shape → List (List Words) → List (List ℕ)
calls_in filter list limits [] shapes lists = []
calls_in filter list limits (entry ∷ past) shapes lists =
    let before : History = before_last limits entry past shapes lists in
    let asked : Option Body = asked_at (shapes_before entry shapes) past entry in
    with_call (is_changed filter list before asked) (calls_in filter list limits past (shapes_before entry shapes) (lists_before entry lists))
    (call_words before asked)

-- All

abbrev pub head : List ℕ
head = codes "Nothing is carried on from a changed decision: each entry is judged where it stands." ++ 10 ∷ []

-- that nothing is carried on, each changed decision, and how many there are of each call
abbrev pub whatif_text : FilterText → List Words → History → List ℕ
whatif_text filter list h =
    head ++ (changes_in filter list h.limits h.past h.shapes h.lists
    ++ rows_text (codes "changed") (tally_of filter list h) (calls_in filter list h.limits h.past h.shapes h.lists))
