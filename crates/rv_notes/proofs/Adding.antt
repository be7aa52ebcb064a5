-- The notes of a line come behind others, each that is due.
use Rattle.std.proofs.Common.{◌≡◌, ℕ, zero, suc, ◌+◌, ◌-◌, ◌<◌, ◌≤◌, ◌⊎◌, inl, inr, List, [], ◌∷◌, length, get_or, Bool, true, false, refl, ap, sym, ◌∙◌, subst, arith}
use Rattle.std.specs.Prelude.{◌==◌, ◌↔◌, if◌then◌else◌, slice_get, Some, None, IsTrue}
use Rattle.std.specs.List.{All, Contains}
use Rattle.std.proofs.lemmas.Bool.{cases_lt}
use Rattle.std.proofs.lemmas.Bool.Decides.{nat_tests}
use Rattle.std.proofs.lemmas.List.Elements.{All-push, Contains-append_left, Contains-push, Contains-push_cases}
use Rattle.std.proofs.lemmas.Option.{slice_get-get_or, slice_get_past}
use Rattle.rv_access.specs.Words.{Words}
use Rattle.rv_access.specs.Lines.{line_at}
use Rattle.rv_notes.specs.Names.{Scene, lacks_caller, lacks_home, lacks_object, lacks_operation}
use Rattle.rv_notes.specs.Covered.{DecidesNothing, has_ended}
use Rattle.rv_notes.specs.Notes.{AddsNotes, AreNotes, Due, Passes, number_of, passes, told}
use Rattle.rv_notes.specs.declared.note.Note.{Note}
use Rattle.rv_notes.specs.declared.note.Note.TheVariants.{Caller, Home, Object, Operation, Past, Covered}

-- One note

kept : (b : Bool) (note : Note) (notes : List Note) (other : Note) → Contains notes other → Contains (told b note notes) other
kept true note notes other c = Contains-append_left notes (note ∷ []) other c
kept false note notes other c = c

all_told : (P : Note → Type 0) (b : Bool) (note : Note) (notes : List Note) → (b ≡ true → P note) → All P notes → All P (told b note notes)
all_told P true note notes p all = All-push P notes note all (p refl)
all_told P false note notes p all = all

-- notes of a number, and others
abbrev Apart : ℕ → List Note → List Note → Type 0
Apart number before notes = (other : Note) → Contains notes other → Contains before other ⊎ (number_of other ≡ number)

one_more : (number : ℕ) (before : List Note) (b : Bool) (note : Note) (notes : List Note) → number_of note ≡ number → Apart number before notes → Apart number before (told b note notes)
one_more number before true note notes e apart other c = by_cases (Contains-push_cases notes note other c)
  where
    by_cases : Contains notes other ⊎ (note ≡ other) → Contains before other ⊎ (number_of other ≡ number)
    by_cases (inl c) = apart other c
    by_cases (inr same) = inr (subst (λ (n : Note). number_of n ≡ number) same e)
one_more number before false note notes e apart other c = apart other c

there : (b : Bool) (note : Note) (notes : List Note) → b ≡ true → Contains (told b note notes) note
there true note notes e = Contains-push notes note
there false note notes e = absurd (cc)

-- The line of a number

pub line_behind : (list : List Words) (k : ℕ) → line_at list (suc k) ≡ slice_get list (suc k - 1)
line_behind list k =
    let counted : (suc k == 0) ≡ false = grind (arith, nat_tests) in
    ap (λ (b : Bool). if b then None else slice_get list (suc k - 1)) counted

line_there : (list : List Words) (number : ℕ) (line : Words) → 0 < number → number ≤ length list → line ≡ get_or list (number - 1) line → line_at list number ≡ Some line
line_there list zero line counted there is = absurd (omega (arith, counted))
line_there list (suc k) line counted there is =
    let less : suc k - 1 < length list = omega (arith, there) in
    line_behind list k ∙ (slice_get-get_or list (suc k - 1) line less ∙ ap Some (sym is))

pub no_line : (list : List Words) (test : Words → Bool) → Passes list 0 test → ⊥
no_line list test e = absurd (cc)

pub past_lines : (list : List Words) (number : ℕ) (test : Words → Bool) → length list < number → Passes list number test → ⊥
past_lines list zero test past e = absurd (omega (arith, past))
past_lines list (suc k) test past e =
    let behind : length list ≤ suc k - 1 = omega (arith, past) in
    let none : passes test (line_at list (suc k)) ≡ false = ap (passes test) (line_behind list k ∙ slice_get_past list (suc k - 1) behind) in
    let both : true ≡ false = sym e ∙ none in
    absurd (cc)

-- what is told of a line, by what is due
pub record Tests (scene : Scene) (list : List Words) (number : ℕ) (line : Words) (a b c d e f : Bool) : Type 0 where
  pub caller : a ≡ lacks_caller scene line
  pub home : b ≡ lacks_home scene line
  pub object : c ≡ lacks_object scene line
  pub operation : d ≡ lacks_operation scene line
  pub past : e ≡ has_ended line.window scene.clock
  pub covered : IsTrue f ↔ DecidesNothing list number

pub adds : (scene : Scene) (list : List Words) (number : ℕ) (line : Words) (caller home object operation past covered : Bool) (one two three four five six seven : List Note)
    → 0 < number → number ≤ length list → line ≡ get_or list (number - 1) line → Tests scene list number line caller home object operation past covered
    → two ≡ told caller (Caller number) one → three ≡ told home (Home number) two → four ≡ told object (Object number) three → five ≡ told operation (Operation number) four → six ≡ told past (Past number) five → seven ≡ told covered (Covered number) six
    → AddsNotes scene list number one seven
adds scene list number line caller home object operation past covered one two three four five six seven counted few is tests e1 e2 e3 e4 e5 e6 = record {
  due = λ all.
      subst (All (Due scene list)) (sym e6) (all_told (Due scene list) covered (Covered number) six (λ t. (counted, few, tests.covered.0 t))
      (subst (All (Due scene list)) (sym e5) (all_told (Due scene list) past (Past number) five (due_by past (λ (l : Words). has_ended l.window scene.clock) tests.past)
      (subst (All (Due scene list)) (sym e4) (all_told (Due scene list) operation (Operation number) four (due_by operation (lacks_operation scene) tests.operation)
      (subst (All (Due scene list)) (sym e3) (all_told (Due scene list) object (Object number) three (due_by object (lacks_object scene) tests.object)
      (subst (All (Due scene list)) (sym e2) (all_told (Due scene list) home (Home number) two (due_by home (lacks_home scene) tests.home)
      (subst (All (Due scene list)) (sym e1) (all_told (Due scene list) caller (Caller number) one (due_by caller (lacks_caller scene) tests.caller) all)))))))))));
  kept = λ note c. to_seven note (to_six note (to_five note (to_four note (to_three note (to_two note c)))));
  all = every;
  apart =
      subst (Apart number one) (sym e6) (one_more number one covered (Covered number) six refl
      (subst (Apart number one) (sym e5) (one_more number one past (Past number) five refl
      (subst (Apart number one) (sym e4) (one_more number one operation (Operation number) four refl
      (subst (Apart number one) (sym e3) (one_more number one object (Object number) three refl
      (subst (Apart number one) (sym e2) (one_more number one home (Home number) two refl
      (subst (Apart number one) (sym e1) (one_more number one caller (Caller number) one refl (λ other c. inl c))))))))))));
}
  where
    at : line_at list number ≡ Some line
    at = line_there list number line counted few is

    due_by : (b : Bool) (test : Words → Bool) → b ≡ test line → b ≡ true → Passes list number test
    due_by b test e t = ap (passes test) at ∙ (sym e ∙ t)

    by_due : (b : Bool) (test : Words → Bool) → b ≡ test line → Passes list number test → b ≡ true
    by_due b test e p = e ∙ (sym (ap (passes test) at) ∙ p)

    to_two : (note : Note) → Contains one note → Contains two note
    to_two note c = subst (λ (ns : List Note). Contains ns note) (sym e1) (kept caller (Caller number) one note c)

    to_three : (note : Note) → Contains two note → Contains three note
    to_three note c = subst (λ (ns : List Note). Contains ns note) (sym e2) (kept home (Home number) two note c)

    to_four : (note : Note) → Contains three note → Contains four note
    to_four note c = subst (λ (ns : List Note). Contains ns note) (sym e3) (kept object (Object number) three note c)

    to_five : (note : Note) → Contains four note → Contains five note
    to_five note c = subst (λ (ns : List Note). Contains ns note) (sym e4) (kept operation (Operation number) four note c)

    to_six : (note : Note) → Contains five note → Contains six note
    to_six note c = subst (λ (ns : List Note). Contains ns note) (sym e5) (kept past (Past number) five note c)

    to_seven : (note : Note) → Contains six note → Contains seven note
    to_seven note c = subst (λ (ns : List Note). Contains ns note) (sym e6) (kept covered (Covered number) six note c)

    of_two : (k : ℕ) → k ≡ number → Passes list k (lacks_caller scene) → Contains two (Caller k)
    of_two k e p =
        let due : Passes list number (lacks_caller scene) = subst (λ (n : ℕ). Passes list n (lacks_caller scene)) e p in
        subst (λ (n : ℕ). Contains two (Caller n)) (sym e)
        (subst (λ (ns : List Note). Contains ns (Caller number)) (sym e1) (there caller (Caller number) one (by_due caller (lacks_caller scene) tests.caller due)))

    of_three : (k : ℕ) → k ≡ number → Passes list k (lacks_home scene) → Contains three (Home k)
    of_three k e p =
        let due : Passes list number (lacks_home scene) = subst (λ (n : ℕ). Passes list n (lacks_home scene)) e p in
        subst (λ (n : ℕ). Contains three (Home n)) (sym e)
        (subst (λ (ns : List Note). Contains ns (Home number)) (sym e2) (there home (Home number) two (by_due home (lacks_home scene) tests.home due)))

    of_four : (k : ℕ) → k ≡ number → Passes list k (lacks_object scene) → Contains four (Object k)
    of_four k e p =
        let due : Passes list number (lacks_object scene) = subst (λ (n : ℕ). Passes list n (lacks_object scene)) e p in
        subst (λ (n : ℕ). Contains four (Object n)) (sym e)
        (subst (λ (ns : List Note). Contains ns (Object number)) (sym e3) (there object (Object number) three (by_due object (lacks_object scene) tests.object due)))

    of_five : (k : ℕ) → k ≡ number → Passes list k (lacks_operation scene) → Contains five (Operation k)
    of_five k e p =
        let due : Passes list number (lacks_operation scene) = subst (λ (n : ℕ). Passes list n (lacks_operation scene)) e p in
        subst (λ (n : ℕ). Contains five (Operation n)) (sym e)
        (subst (λ (ns : List Note). Contains ns (Operation number)) (sym e4) (there operation (Operation number) four (by_due operation (lacks_operation scene) tests.operation due)))

    of_six : (k : ℕ) → k ≡ number → Passes list k (λ (l : Words). has_ended l.window scene.clock) → Contains six (Past k)
    of_six k e p =
        let due : Passes list number (λ (l : Words). has_ended l.window scene.clock) = subst (λ (n : ℕ). Passes list n (λ (l : Words). has_ended l.window scene.clock)) e p in
        subst (λ (n : ℕ). Contains six (Past n)) (sym e)
        (subst (λ (ns : List Note). Contains ns (Past number)) (sym e5) (there past (Past number) five (by_due past (λ (l : Words). has_ended l.window scene.clock) tests.past due)))

    of_seven : (k : ℕ) → k ≡ number → DecidesNothing list k → Contains seven (Covered k)
    of_seven k e p =
        let due : DecidesNothing list number = subst (DecidesNothing list) e p in
        subst (λ (n : ℕ). Contains seven (Covered n)) (sym e)
        (subst (λ (ns : List Note). Contains ns (Covered number)) (sym e6) (there covered (Covered number) six (tests.covered.1 due)))

    every : (note : Note) → number_of note ≡ number → Due scene list note → Contains seven note
    every (Caller k) e d = to_seven (Caller k) (to_six (Caller k) (to_five (Caller k) (to_four (Caller k) (to_three (Caller k) (of_two k e d)))))
    every (Home k) e d = to_seven (Home k) (to_six (Home k) (to_five (Home k) (to_four (Home k) (of_three k e d))))
    every (Object k) e d = to_seven (Object k) (to_six (Object k) (to_five (Object k) (of_four k e d)))
    every (Operation k) e d = to_seven (Operation k) (to_six (Operation k) (of_five k e d))
    every (Past k) e d = to_seven (Past k) (of_six k e d)
    every (Covered k) e d = of_seven k e d.2

-- All lines

-- the notes of the lines up to a number
pub record SoFar (scene : Scene) (list : List Words) (number : ℕ) (notes : List Note) : Type 0 where
  pub due : All (Due scene list) notes
  pub all : (note : Note) → number_of note ≤ number → Due scene list note → Contains notes note

pub within : (list : List Words) (number : ℕ) (test : Words → Bool) → Passes list number test → (0 < number) × (number ≤ length list)
within list zero test p = absurd (no_line list test p)
within list (suc k) test p = (omega arith, by_cases (cases_lt (length list) (suc k)))
  where
    by_cases : (length list < suc k) ⊎ (suc k ≤ length list) → suc k ≤ length list
    by_cases (inl past) = absurd (past_lines list (suc k) test past p)
    by_cases (inr less) = less

pub numbered : (scene : Scene) (list : List Words) (note : Note) → Due scene list note → (0 < number_of note) × (number_of note ≤ length list)
numbered scene list (Caller k) d = within list k (lacks_caller scene) d
numbered scene list (Home k) d = within list k (lacks_home scene) d
numbered scene list (Object k) d = within list k (lacks_object scene) d
numbered scene list (Operation k) d = within list k (lacks_operation scene) d
numbered scene list (Past k) d = within list k (λ l. has_ended l.window scene.clock) d
numbered scene list (Covered k) d = (d.0, d.1)

pub none_yet : (scene : Scene) (list : List Words) → SoFar scene list 0 []
none_yet scene list = record {
  due = λ k d less. absurd (omega (arith, less));
  all = λ note few d. absurd (omega (arith, few, (numbered scene list note d).0));
}

pub line_more : (scene : Scene) (list : List Words) (number : ℕ) (notes more : List Note) → SoFar scene list number notes → AddsNotes scene list (number + 1) notes more → SoFar scene list (number + 1) more
line_more scene list number notes more so_far adds = record {
  due = adds.due so_far.due;
  all = λ note few d. by_cases note few d (cases_lt (number_of note) (number + 1));
}
  where
    by_cases : (note : Note) → number_of note ≤ number + 1 → Due scene list note → (number_of note < number + 1) ⊎ (number + 1 ≤ number_of note) → Contains more note
    by_cases note few d (inl less) = adds.kept note (so_far.all note (omega (arith, less)) d)
    by_cases note few d (inr past) = adds.all note (omega (arith, few, past)) d

pub all_lines : (scene : Scene) (list : List Words) (number : ℕ) (notes : List Note) → length list ≤ number → SoFar scene list number notes → AreNotes scene list notes
all_lines scene list number notes past so_far = record {
  due = so_far.due;
  all = λ note d. so_far.all note (omega (arith, past, (numbered scene list note d).1)) d;
}
