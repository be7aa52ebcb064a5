-- How a review of what another list would have decided follows a journal, entry by entry (own).
use Rattle.std.specs.Prelude.{◌≡◌, ℕ, suc, Bool, ◌&&◌, if◌then◌else◌, List, [], ◌∷◌, ◌++◌, length, map, string_bytes, Option, Some, None}
use Rattle.rv_access.specs.Lines.{allows}
use Rattle.rv_access.specs.Words.{Words}
use Rattle.rv_event.specs.declared.entry.Body.{Body}
use Rattle.rv_event.specs.declared.entry.Entry.{Entry}
use Rattle.rv_history.specs.History.{History}
use Rattle.rv_refused.specs.Filters.{FilterText}
use Rattle.rv_asked.specs.Asked.{line_by, takes}
use Rattle.rv_asked.specs.Holding.{Keeps}
use Rattle.rv_tallied.specs.Tallies.{counted, kept_for}
use Rattle.rv_whatif.specs.Changes.{call_text, calls_in, changes_in, differs, line_of, tally_of, with_call}
use Rattle.rv_whatif.specs.declared.whatif.WhatIf.{WhatIf}

-- what is kept is what there is behind a history
pub record Follows (filter : FilterText) (lines : List Words) (it : WhatIf) (h : History) : Type 0 where
  pub taken : it.filter ≡ filter
  pub list : it.list ≡ lines
  pub holding : Keeps it.holding h.shapes h.past
  pub text : string_bytes it.text ≡ changes_in filter lines h.limits h.past h.shapes h.lists
  pub calls : map string_bytes it.calls.items ≡ calls_in filter lines h.limits h.past h.shapes h.lists
  pub tallies : (words : List ℕ) → kept_for it.tallies words ≡ tally_of filter lines h words

-- the decision about a call is told and counted, where it is changed
pub record Judges (old new : WhatIf) (h : History) (number : ℕ) (entry : Entry) (call : Body) (changed : Bool) : Type 0 where
  pub filter : new.filter ≡ old.filter
  pub list : new.list ≡ old.list
  pub holding : new.holding ≡ old.holding
  pub text : string_bytes new.text ≡ string_bytes old.text ++ (if changed then line_of old.list h number entry call else [])
  pub calls : map string_bytes new.calls.items ≡ with_call changed (map string_bytes old.calls.items) (call_text h call)
  pub tallies : (words : List ℕ) → kept_for new.tallies words
      ≡ (if changed then counted (call_text h call) (allows (line_by old.list h call)) words (kept_for old.tallies words)
      else kept_for old.tallies words)

-- of the call that is asked about, if one is
abbrev pub JudgesCall : WhatIf → WhatIf → History → ℕ → Entry → Option Body → Type 0
JudgesCall old new h number entry None = new ≡ old
JudgesCall old new h number entry (Some call) =
    Keeps old.holding h.shapes h.past → Judges old new h number entry call (takes old.filter h number call && differs old.list h call)

-- an entry is looked at as the next one of a history
abbrev pub Looks : WhatIf → WhatIf → History → ℕ → Entry → Type 0
Looks old new h number entry =
    (filter : FilterText) (list : List Words) → Follows filter list old h → number ≡ suc (length h.past)
    → Follows filter list new (record h { past = entry ∷ h.past })
