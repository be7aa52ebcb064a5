-- Violations, and the first of them in the order of the text (own).
use Rattle.std.specs.Prelude.{ℕ, Bool, false, nat_lt, ◌==◌, if◌then◌else◌, List, [], ◌∷◌, Option, Some, None}
use Rattle.rv_restrict.specs.declared.violation.Restriction.{Restriction}
use Rattle.rv_restrict.specs.declared.violation.Restriction.TheVariants.{NoAbortStatements, NoRequeueStatements, NoSelectStatements, NoRelativeDelay, NoLocalProtectedObjects, NoTaskHierarchy, MaxProtectedEntries, MaxTaskEntries, SimpleBarriers, NoDynamicPriorities, NoDependence}
use Rattle.rv_restrict.specs.declared.violation.Violation.{Violation}

-- the order of the restrictions
abbrev pub row_number : Restriction → ℕ
row_number NoAbortStatements = 0
row_number NoRequeueStatements = 1
row_number NoSelectStatements = 2
row_number NoRelativeDelay = 3
row_number NoLocalProtectedObjects = 4
row_number NoTaskHierarchy = 5
row_number MaxProtectedEntries = 6
row_number MaxTaskEntries = 7
row_number SimpleBarriers = 8
row_number NoDynamicPriorities = 9
row_number NoDependence = 10

-- the one stands before the other, or at its place in an earlier row
abbrev pub precedes : Violation → Violation → Bool
precedes v w = if v.place == w.place then nat_lt (row_number v.restriction) (row_number w.restriction) else nat_lt v.place w.place

-- what is done with each violation
abbrev pub Note : Type 0 → Type 0
Note A = Violation → A → A

infixr 10 ◌▷◌
-- the one, and then the other
abbrev pub ◌▷◌ : {A : Type 0} → (A → A) → (A → A) → A → A
(f ▷ g) noted = g (f noted)

-- no violation
abbrev pub nothing : {A : Type 0} → A → A
nothing noted = noted

-- one violation
abbrev pub broken : {A : Type 0} → Note A → Restriction → ℕ → A → A
broken note restriction place noted = note (record { restriction = restriction; place = place }) noted

-- a violation, where it is one
abbrev pub broken_unless : {A : Type 0} → Note A → Bool → Restriction → ℕ → A → A
broken_unless note keeps restriction place = if keeps then nothing else broken note restriction place

-- those of a part that may not be there
abbrev pub maybe_noted : {A P : Type 0} → (P → A → A) → Option P → A → A
maybe_noted violations None = nothing
maybe_noted violations (Some part) = violations part

-- those of all parts
abbrev pub each_noted : {A P : Type 0} → (P → A → A) → List P → A → A
each_noted violations [] = nothing
each_noted violations (part ∷ parts) = violations part ▷ each_noted violations parts

-- the first of two: the one that was noted before where it precedes
abbrev pub earlier : Violation → Option Violation → Option Violation
earlier v None = Some v
earlier v (Some w) = if precedes w v then Some w else Some v

-- a violation that was noted before this one precedes it
abbrev pub is_behind : Violation → Option Violation → Bool
is_behind v None = false
is_behind v (Some w) = precedes w v

-- the first of these
abbrev pub first_of : List Violation → Option Violation
first_of [] = None
first_of (v ∷ vs) = earlier v (first_of vs)
