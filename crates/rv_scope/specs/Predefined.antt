-- What the language and the host declare (ISO/IEC 8652:2012, 13.7, A.1, C.3.2, D.8, D.10; own).
use Rattle.std.specs.Prelude.{ℕ, Bool, ◌==◌, List, [], ◌∷◌, Option, codes}
use Rattle.std.specs.List.{list_any}
use Rattle.std.specs.Map.{lookup}
use Rattle.rv_text.specs.Names.{is_same_name}
use Rattle.rv_scope.specs.declared.predefined.Library.{Library}
use Rattle.rv_scope.specs.declared.predefined.Library.TheVariants as l
use Rattle.rv_scope.specs.declared.predefined.Predefined.{Predefined}
use Rattle.rv_scope.specs.declared.predefined.Predefined.TheVariants as p

-- each library package, in the order of its number
abbrev pub library_number : Library → ℕ
library_number l.Standard = 0
library_number l.System = 1
library_number l.Ada = 2
library_number l.RealTime = 3
library_number l.SynchronousTaskControl = 4
library_number l.Interrupts = 5
library_number l.InterruptNames = 6
library_number l.Host = 7

-- the package is one of these
abbrev pub is_among : Library → List Library → Bool
is_among library libraries = list_any (λ other. library_number other == library_number library) libraries

-- the packages that stand in no other
abbrev pub root_libraries : List (List ℕ × Library)
root_libraries = (codes "Standard", l.Standard) ∷ (codes "System", l.System) ∷ (codes "Ada", l.Ada) ∷ (codes "Host", l.Host) ∷ []

-- the children of a package (10.1.1)
abbrev pub child_libraries : Library → List (List ℕ × Library)
child_libraries l.Ada =
    (codes "Real_Time", l.RealTime) ∷ (codes "Synchronous_Task_Control", l.SynchronousTaskControl) ∷ (codes "Interrupts", l.Interrupts) ∷ []
child_libraries l.Interrupts = (codes "Names", l.InterruptNames) ∷ []
child_libraries other = []

-- what a package declares
abbrev pub declarations_of : Library → List (List ℕ × Predefined)
declarations_of l.Standard =
    (codes "Integer", p.Integer) ∷ (codes "Natural", p.Natural) ∷ (codes "Positive", p.Positive) ∷ (codes "Boolean", p.Boolean)
    ∷ (codes "True", p.True) ∷ (codes "False", p.False)
    ∷ (codes "Constraint_Error", p.ConstraintError) ∷ (codes "Program_Error", p.ProgramError) ∷ []
declarations_of l.System =
    (codes "Priority", p.Priority) ∷ (codes "Interrupt_Priority", p.InterruptPriority)
    ∷ (codes "Any_Priority", p.AnyPriority) ∷ (codes "Default_Priority", p.DefaultPriority) ∷ []
declarations_of l.RealTime =
    (codes "Time", p.Time) ∷ (codes "Time_Span", p.TimeSpan) ∷ (codes "Clock", p.Clock) ∷ (codes "Milliseconds", p.Milliseconds) ∷ []
declarations_of l.SynchronousTaskControl =
    (codes "Suspension_Object", p.SuspensionObject) ∷ (codes "Set_True", p.SetTrue) ∷ (codes "Set_False", p.SetFalse)
    ∷ (codes "Current_State", p.CurrentState) ∷ (codes "Suspend_Until_True", p.SuspendUntilTrue) ∷ []
declarations_of l.InterruptNames =
    (codes "Int_0", p.Line 0) ∷ (codes "Int_1", p.Line 1) ∷ (codes "Int_2", p.Line 2) ∷ (codes "Int_3", p.Line 3)
    ∷ (codes "Int_4", p.Line 4) ∷ (codes "Int_5", p.Line 5) ∷ (codes "Int_6", p.Line 6) ∷ (codes "Int_7", p.Line 7)
    ∷ (codes "Int_8", p.Line 8) ∷ (codes "Int_9", p.Line 9) ∷ []
declarations_of l.Host = (codes "Access_Denied", p.AccessDenied) ∷ []
declarations_of other = []

-- what a name denotes in a table of names
abbrev pub named : {X : Type 0} → List ℕ → List (List ℕ × X) → Option X
named name table = lookup (is_same_name name) table
