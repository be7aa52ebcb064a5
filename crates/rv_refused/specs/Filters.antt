-- Which refused entries a filter takes (own). Names ignore case (2.3).
use Rattle.std.specs.Prelude.{ℕ, Bool, true, false, ◌||◌, nat_le, List, Option, Some, None}
use Rattle.rv_text.specs.Names.{dotted, is_same_name}
use Rattle.rv_shape.specs.Catalogue.{Who, Target, Nowhere, OnProtected, OnSuspension, suspension_operation_name}
use Rattle.rv_shape.specs.Printed.{actor_text}
use Rattle.rv_history.specs.Subject.{home}
use Rattle.rv_refused.specs.declared.filter.Since.{Since}
use Rattle.rv_refused.specs.declared.filter.Since.TheVariants as Sinces

-- since when, by which caller, and of which operation; without a word each is taken
pub record FilterText : Type 0 where
  pub since : Since
  pub by : Option (List ℕ)
  pub of : Option (List ℕ)

-- an entry of this number at this tick isn't before that
abbrev pub is_since : Since → ℕ → ℕ → Bool
is_since Sinces.Start number tick = true
is_since (Sinces.Entry first) number tick = nat_le first number
is_since (Sinces.Tick first) number tick = nat_le first tick

-- a word is an actor's name, or that of its home: a task's unit, or `Interrupts`
abbrev pub is_by : List ℕ → Who → Bool
is_by word who = is_same_name word (home who) || is_same_name word (actor_text who)

-- a word is a unit, `Unit.Object` or `Unit.Object.Operation`
abbrev pub is_of_names : List ℕ → List ℕ → List ℕ → List ℕ → Bool
is_of_names word unit object operation =
    is_same_name word unit
    || (is_same_name word (dotted unit object) || is_same_name word (dotted (dotted unit object) operation))

abbrev pub is_of : List ℕ → Target → Bool
is_of word Nowhere = false
is_of word (OnProtected site) = is_of_names word site.unit site.object.name site.operation.name
is_of word (OnSuspension unit object operation) = is_of_names word unit object (suspension_operation_name operation)

-- the caller is taken
abbrev pub takes_by : Option (List ℕ) → Who → Bool
takes_by None who = true
takes_by (Some word) who = is_by word who

-- what is called is taken
abbrev pub takes_of : Option (List ℕ) → Target → Bool
takes_of None target = true
takes_of (Some word) target = is_of word target
