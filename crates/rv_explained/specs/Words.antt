-- Words that several lines of an explanation have (own).
use Rattle.std.specs.Prelude.{ℕ, ◌==◌, if◌then◌else◌, List, [], ◌∷◌, ◌++◌, codes}
use Rattle.std.specs.Fmt.{decimal}
use Rattle.rv_event.specs.Text.{rule_number}
use Rattle.rv_event.specs.declared.entry.Rule.{Rule}
use Rattle.rv_event.specs.declared.entry.Rule.TheVariants.{Grant, Blocking, Reentry, Ceiling, Queue, Waiter}
use Rattle.rv_refused.specs.Refusals.{cause_text}

-- which list decided: the one that the entry of this number brought
abbrev pub since_text : ℕ → List ℕ
since_text number = if number == 0 then codes "before any list" else codes "in the list since entry " ++ decimal number

-- which list is in force: its version, and the entry that brought it
abbrev pub force_text : ℕ → ℕ → List ℕ
force_text version number =
    if number == 0 then codes "no list" else codes "list version " ++ (decimal version ++ (codes " since entry " ++ decimal number))

-- the section of the standard that a rule is of
abbrev pub section : Rule → List ℕ
section Grant = codes "own"
section Blocking = codes "9.5.1, H.5"
section Reentry = codes "9.5.1, H.5"
section Ceiling = codes "D.3"
section Queue = codes "D.7"
section Waiter = codes "D.10"

-- a rule in words
abbrev pub rule_text : Rule → List ℕ
rule_text rule =
    codes "rule " ++ (decimal (rule_number rule) ++ (codes " (" ++ (section rule ++ (codes "): " ++ (cause_text rule [] ++ 10 ∷ [])))))
