-- The start and the end of a run.
use Rattle.std.proofs.Common.{◌≡◌, Bool, ℕ, List, Ok, Err, sym, subst, MatchResult}
use Rattle.std.specs.Prelude.{Result}
use Rattle.rv_staff.specs.Giving.{Starts}
use Rattle.rv_shape.specs.Shape.{Shape}
use Rattle.rv_staff.specs.Saying.{Known, Says, SaysLost}
use Rattle.rv_staff.specs.Staffs.{Staffed}
use Rattle.rv_run.specs.Beside.{Beside, Ended, Moment}
use Rattle.rv_run.specs.Finishing.{FailsByMeans, Served, TellsLost}
use Rattle.rv_run.specs.FinishingBeside.{GoesOnByWith, GoesWith}
use Rattle.rv_run.specs.Staging.{Fails, ReadsNothing, Stage}

-- what a write came to
abbrev pub Wrote : {X E : Type 0} → Result X E → Served → Type 0
Wrote written result = MatchResult written (λ x. result ≡ Ok tt) (λ e. Fails result)

pub starts_so : {X E : Type 0} (v w : Staffed) (old new : Known) (written : Result X E) (result : Served)
    → Starts v w old new written → Wrote written result → Starts v w old new result
starts_so v w old new (Ok x) result starts is = subst (λ (r : Served). Starts v w old new r) (sym is) starts
starts_so v w old new (Err e) (Ok y) starts is = absurd is
starts_so v w old new (Err e) (Err failure) starts is = starts

pub says_so : {X E : Type 0} (old new : Known) (text : List ℕ) (written : Result X E) (result : Served)
    → Says old new text written → Wrote written result → Says old new text result
says_so old new text (Ok x) result says is = subst (λ (r : Served). Says old new text r) (sym is) says
says_so old new text (Err e) (Ok y) says is = absurd is
says_so old new text (Err e) (Err failure) says is = says

pub goes_through : {C X E : Type 0} (does : Beside C) (runs : Bool) (m : Moment C) (between : Stage) (n : Moment C) (written : Result X E) (started : Served) (result : Ended)
    → Starts m.stage.staff between.staff m.stage.written between.written written → Wrote written started → ReadsNothing m.stage between → FailsByMeans started
    → GoesOnByWith does runs (record m { stage = between }) n started result → GoesWith does runs m n result
goes_through does runs m between n written started result starts is unread means serves = record {
  between = between;
  started = started;
  starts = starts_so m.stage.staff between.staff m.stage.written between.written written started starts is;
  unread = unread;
  means = means;
  serves = serves;
}

-- actors are named, whether that is heard or not
pub tells_lost : {X E : Type 0} (old new : Known) (shapes : List Shape) (lost : List ℕ) (heard : Result X E) → SaysLost old new shapes lost heard
    → TellsLost old new shapes lost
tells_lost old new shapes lost (Ok x) says = (Ok tt, says)
tells_lost old new shapes lost (Err e) says = (Err tt, says)
