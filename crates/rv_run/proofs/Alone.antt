-- A run without chores is a run alone.
use Rattle.std.proofs.Common.{◌≡◌, ◌∙◌, ◌<◌, ℕ, zero, suc, List, Bool, true, false, Option, Some, None, Ok, Err, inl, inr, refl, sym, ap, subst, length}
use Rattle.std.specs.Prelude.{Result}
use Rattle.rv_crew.specs.declared.crew.Closed.{Closed}
use Rattle.rv_fault.specs.declared.failure.Failure.{Failure}
use Rattle.rv_input.specs.Coming.{GivesLine}
use Rattle.rv_staff.specs.Ending.{Ended as Ends}
use Rattle.rv_staff.specs.Saying.{Known}
use Rattle.rv_run.specs.declared.command.Goes.{Goes}
use Rattle.rv_run.specs.declared.command.Goes.TheVariants.{On, Out}
use Rattle.rv_run.specs.declared.outputs.KeptFailure.{KeptFailure}
use Rattle.rv_run.specs.declared.outputs.KeptFailure.TheVariants.{Run, File}
use Rattle.rv_run.specs.Beside.{Ended, IsAlone, IsOfRun, Moment, OnlyFlushes, no_chores}
use Rattle.rv_run.specs.Commanding.{AdmitsAll, Commands}
use Rattle.rv_run.specs.Finishing.{Counts, Finishes, Goes as GoesThrough, GoesOnBy, Plays, Served, ServesIf, TellsLost, Unclosed}
use Rattle.rv_run.specs.FinishingBeside.{CountsWith, FinishesWith, GoesOnByWith, GoesWith, PlaysWith, ServesIfWith, UnclosedWith}
use Rattle.rv_run.specs.ServingBeside.{CarriesOut, HearsIf, ServesAllWith, ServesIfOn, ServesLine, ServesNextWith, ServesOneWith, ServesUpToWith, StopsBehindWith, reads}
use Rattle.rv_run.specs.ServingLines.{Flushes, ServesAll, ServesNext, ServesOne, ServesUpTo, most_commands}
use Rattle.rv_run.specs.Staging.{Comes, GoesOn, Outcome, Stage}

told : {C : Type 0} (m n : Moment C) → n ≡ m → n.errors ≡ m.errors
told m n same = ap (λ (x : Moment _). x.errors) same

-- what a result is of

went : (outcome : Outcome) (goes : Goes) → IsOfRun outcome (Ok goes) → outcome ≡ Ok goes
went (Ok other) goes is = sym (cc is)
went (Err failure) goes is = absurd (cc is)

-- A command

unheard : {C : Type 0} (chores : C) (old new : Known) → HearsIf no_chores chores old new → new ≡ old
unheard chores old new (inl same) = same
unheard chores old new (inr same) = same

carried : {C : Type 0} (m n : Moment C) (line : List ℕ) (answer : Option Outcome) (result : Outcome) → answer ≡ None → CarriesOut no_chores m line answer n result
    → Commands AdmitsAll m.stage n.stage line result × (n.errors ≡ m.errors)
carried m n line (Some answered) result none same = absurd (cc none)
carried m n line None result none does = (
  subst (λ (x : Moment _). Commands AdmitsAll m.stage x.stage line result) (sym does.4) does.2,
  ap (λ (x : Moment _). x.errors) does.4 ∙ unheard m.chores m.errors does.1 does.3,
)

commanded : {C : Type 0} (m n : Moment C) (line : List ℕ) (result : Outcome) → ServesLine no_chores m n line result
    → Commands AdmitsAll m.stage n.stage line result × (n.errors ≡ m.errors)
commanded m n line result serves =
    subst (λ (x : Moment _). Commands AdmitsAll x.stage n.stage line result × (n.errors ≡ x.errors)) serves.heeds.0
    (carried serves.heeded n line serves.answer result serves.heeds.1 serves.carried)

next : {C : Type 0} (m n : Moment C) (result : Outcome) → ServesNextWith no_chores m n result → ServesNext AdmitsAll m.stage n.stage result × (n.errors ≡ m.errors)
next m n result (inl line) =
    let serves = commanded (reads m line.input line.left) n line.line result line.serves in
    (inl record { line = line.line; read = line.input; left = line.left; comes = line.comes; shorter = line.shorter; commands = serves.0 }, serves.1)
next m n result (inr (inl none)) = (
  inr (inl record {
    comes = subst (λ (x : Moment _). Comes m.stage x.stage (GivesLine x.stage.input.given None)) (sym none.same) none.comes;
    nothing = record { staff = ap (λ (x : Moment _). x.stage.staff) none.same; written = ap (λ (x : Moment _). x.stage.written) none.same ∙ none.leaves.0 };
    ends = none.leaves.1;
  }),
  ap (λ (x : Moment _). x.errors) none.same,
)
next m n result (inr (inr fails)) = (
  inr (inr record {
    nothing = record { staff = ap (λ (x : Moment _). x.stage.staff) fails.same; written = ap (λ (x : Moment _). x.stage.written) fails.same };
    fails = fails.fails;
  }),
  ap (λ (x : Moment _). x.errors) fails.same,
)

-- the same of a run alone, and nothing is told beside it
pub record Alone {C : Type 0} (m n : Moment C) (result : Result Goes KeptFailure) : Type 0 where
  pub outcome : Outcome
  pub serves : ServesOne m.stage n.stage outcome
  pub is : IsOfRun outcome result
  pub told : n.errors ≡ m.errors

if_on : {C : Type 0} (m u n : Moment C) (tended result : Result Goes KeptFailure) (outcome : Outcome) → GoesOn outcome → IsOfRun outcome tended
    → Flushes m.stage u.stage → u.errors ≡ m.errors → ServesIfOn no_chores tended u n result → Alone m n result
if_on m u n (Ok On) result outcome goes is flushed silent serves =
    let more = next u n serves.0 serves.1 in
    record { outcome = serves.0; serves = inr (u.stage, flushed, more.0); is = serves.2; told = more.1 ∙ silent }
if_on m u n (Ok Out) result (Ok other) goes is flushed silent serves = absurd (cc (goes, is))
if_on m u n (Ok Out) result (Err failure) goes is flushed silent serves = absurd (cc is)
if_on m u n (Err failure) result (Ok other) goes is flushed silent serves = absurd (cc is)
if_on m u n (Err failure) result (Err other) goes is flushed silent serves = record {
  outcome = Err other;
  serves = inl (subst (λ (x : Moment _). Flushes m.stage x.stage) (sym serves.0) flushed, goes);
  is = serves.1 ∙ is;
  told = told u n serves.0 ∙ silent;
}

one : {C : Type 0} (m n : Moment C) (result : Result Goes KeptFailure) → ServesOneWith no_chores m n result → Alone m n result
one m n result serves =
    let tends = serves.tends in
    if_on m serves.between n serves.tended result tends.outcome tends.goes tends.of_run tends.flushed tends.silent serves.serves

one_going : {C : Type 0} (m n : Moment C) (goes : Goes) → ServesOneWith no_chores m n (Ok goes) → ServesOne m.stage n.stage (Ok goes) × (n.errors ≡ m.errors)
one_going m n goes serves =
    let alone = one m n (Ok goes) serves in
    (subst (λ (r : Outcome). ServesOne m.stage n.stage r) (went alone.outcome goes alone.is) alone.serves, alone.told)

-- One command after another

up_to : {C : Type 0} (count : ℕ) (m n : Moment C) → ServesUpToWith no_chores count m n → ServesUpTo count m.stage n.stage × (n.errors ≡ m.errors)
up_to zero m n same = (ap (λ (x : Moment _). x.stage) same, told m n same)
up_to (suc count) m n serves =
    let before = up_to count m serves.0 serves.1 in
    let last = one_going serves.0 n On serves.2 in
    ((serves.0.stage, before.0, last.0), last.1 ∙ before.1)

-- a part of a run, of a run alone
abbrev pub ServedOf : {C : Type 0} → (Stage → Stage → Served → Type 0) → Moment C → Moment C → Ended → Type 0
ServedOf serves m n result = (served : Served) × serves m.stage n.stage served × IsOfRun served result × (n.errors ≡ m.errors)

failed : (s u t : Stage) (count : ℕ) (outcome : Outcome) (failure : KeptFailure) → IsOfRun {X = Goes} outcome (Err failure) → count < most_commands → ServesUpTo count s u
    → ServesOne u t outcome → (served : Served) × ServesAll s t served × IsOfRun {X = Unit {0}} served (Err failure)
failed s u t count (Ok goes) failure is within served last = absurd (cc is)
failed s u t count (Err other) failure is within served last =
    (Err other, record { count = count; within = within; before = u; served = served; last = last }, cc is)

all : {C : Type 0} (m n : Moment C) (result : Ended) → ServesAllWith no_chores m n result → ServedOf ServesAll m n result
all m n (Ok x) (inl most) =
    let served = up_to most.count m n most.served in (Ok tt, inl record { count = most.count; all = most.all; served = served.0 }, refl, served.1)
all m n (Ok x) (inr stops) =
    let served = up_to stops.count m stops.before stops.served in
    let last = one_going stops.before n Out stops.last in
    (Ok tt, inr record { count = stops.count; within = stops.within; before = stops.before.stage; served = served.0; last = last.0 }, refl, last.1 ∙ served.1)
all m n (Err failure) stops =
    let served = up_to stops.count m stops.before stops.served in
    let last = one stops.before n (Err failure) stops.last in
    let whole = failed m.stage stops.before.stage n.stage stops.count last.outcome failure last.is stops.within served.0 last.serves in
    (whole.0, whole.1, whole.2, last.told ∙ served.1)

serves_if : {C : Type 0} (runs : Bool) (m n : Moment C) (result : Ended) → ServesIfWith no_chores runs m n result → ServedOf (ServesIf runs) m n result
serves_if true m n result serves = all m n result serves
serves_if false m n result same = (Ok tt, (ap (λ (x : Moment _). x.stage) same.0, refl), same.1, told m n same.0)

goes_by : {C : Type 0} (runs : Bool) (m n : Moment C) (started : Served) (result : Ended) → GoesOnByWith no_chores runs m n started result
    → (served : Served) × GoesOnBy runs m.stage n.stage started served × IsOfRun served result × (n.errors ≡ m.errors)
goes_by runs m n (Ok x) result serves = serves_if runs m n result serves
goes_by runs m n (Err failure) result same = (Err failure, (ap (λ (x : Moment _). x.stage) same.0, refl), same.1, told m n same.0)

goes : {C : Type 0} (runs : Bool) (m n : Moment C) (result : Ended) → GoesWith no_chores runs m n result → ServedOf (GoesThrough runs) m n result
goes runs m n result through =
    let by = goes_by runs (record m { stage = through.between }) n through.started result through.serves in (
      by.0,
      record { between = through.between; started = through.started; starts = through.starts; unread = through.unread; means = through.means; serves = by.1 },
      by.2,
      by.3,
    )

-- The end

counts : (old new : Known) (entries : ℕ) (kept result : Ended) (served : Served) → IsOfRun served kept → CountsWith old new entries kept result
    → (r : Served) × Counts old new entries served r × IsOfRun r result
counts old new entries (Ok x) result (Ok y) is counted = (counted.0, (counted.1, counted.2), counted.3)
counts old new entries (Ok x) result (Err failure) is counted = absurd (cc is)
counts old new entries (Err failure) result (Ok y) is counted = absurd (cc is)
counts old new entries (Err failure) result (Err other) is counted = (Err other, (counted.0, refl), counted.1 ∙ is)

unclosed : (kept result : Ended) (served : Served) → IsOfRun served kept → UnclosedWith kept result → (r : Served) × Unclosed served r × IsOfRun r result
unclosed (Ok x) result (Ok y) is ends = (_, refl, ends)
unclosed (Ok x) result (Err failure) is ends = absurd (cc is)
unclosed (Err failure) result (Ok y) is ends = absurd (cc is)
unclosed (Err failure) result (Err other) is ends = (Err other, refl, ends ∙ is)

finishes : {C : Type 0} (m : Moment C) (chores : C) (written errors : Known) (kept result : Ended) (served : Served) → IsOfRun served kept
    → FinishesWith no_chores m chores written errors kept result
    → (r : Served) × Finishes m.stage.staff m.stage.written written m.errors errors served r × IsOfRun r result
finishes m chores written errors kept result served is (inl leaves) =
    let takes = leaves.takes in
    let counted = counts m.stage.written written (length leaves.closed.host.past) takes.kept result served
    (subst (λ (k : Ended). IsOfRun served k) (sym takes.closes.1) is) takes.counted in (
      counted.0,
      inl record {
        closed = leaves.closed;
        ended = subst (λ (b : Bool). Ends b m.stage.staff leaves.closed) leaves.hurries leaves.ended;
        lost = subst (λ (k : Known). TellsLost k errors leaves.closed.host.shapes leaves.closed.lost.items) takes.closes.0 takes.lost;
        counted = counted.1;
      },
      counted.2,
    )
finishes m chores written errors kept result served is (inr left) =
    let ends = unclosed kept result served is left.ends in (ends.0, inr record { silent = left.silent; unheard = left.unheard; ends = ends.1 }, ends.2)

plays : {C : Type 0} (runs : Bool) (m : Moment C) (chores : C) (written errors : Known) (result : Ended) → PlaysWith no_chores runs m chores written errors result
    → (r : Served) × Plays runs m.stage written m.errors errors r × IsOfRun r result
plays runs m chores written errors result with_chores =
    let served = goes runs m with_chores.last with_chores.served with_chores.goes in
    let ends = finishes with_chores.last chores written errors with_chores.served result served.0 served.2 with_chores.finishes in (
      ends.0,
      record {
        last = with_chores.last.stage;
        served = served.0;
        goes = served.1;
        finishes = subst (λ (k : Known). Finishes with_chores.last.stage.staff with_chores.last.stage.written written k errors served.0 ends.0) served.3 ends.1;
      },
      ends.2,
    )

same : (r : Served) (kept : Ended) (result : Served) → IsOfRun r kept → IsAlone kept result → result ≡ r
same (Ok x) (Ok y) result is alone = alone
same (Ok x) (Err failure) result is alone = absurd (cc is)
same (Err failure) (Ok x) result is alone = absurd (cc is)
same (Err failure) (Err (Run other)) result is alone = cc (is, alone)
same (Err failure) (Err (File error)) result is alone = absurd (cc is)

pub plays_alone : {C : Type 0} (runs : Bool) (m : Moment C) (chores : C) (written errors : Known) (kept : Ended) (result : Served)
    → PlaysWith no_chores runs m chores written errors kept → IsAlone kept result → Plays runs m.stage written m.errors errors result
plays_alone runs m chores written errors kept result with_chores alone =
    let played = plays runs m chores written errors kept with_chores in
    subst (λ (r : Served). Plays runs m.stage written m.errors errors r) (sym (same played.0 kept result played.2 alone)) played.1
