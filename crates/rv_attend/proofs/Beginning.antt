-- How a run begins.
use Rattle.std.proofs.Common.{◌≡◌, ℕ, List, Bool, true, false, Ok, Err, inl, inr, refl, subst, sym}
use Rattle.std.specs.Prelude.{Option, Result}
use Rattle.rv_feed.specs.declared.piece.Piece.{Piece}
use Rattle.rv_follow.specs.declared.following.Found.{Found}
use Rattle.rv_input.specs.Coming.{Reading}
use Rattle.rv_keep.specs.Keeping.{Known}
use Rattle.rv_port.specs.Traces.{Passing}
use Rattle.rv_run.specs.Beside.{Ended}
use Rattle.rv_run.specs.Running.{OpensFor}
use Rattle.rv_run.specs.declared.outputs.KeptFailure.{KeptFailure}
use Rattle.rv_run.specs.declared.outputs.KeptFailure.TheVariants.{Run, File}
use Rattle.rv_staff.specs.Staffs.{Staffed}
use Rattle.rv_attend.specs.Chores.{ChoresIn}
use Rattle.rv_attend.specs.Going.{Terms, terms}
use Rattle.rv_attend.specs.KeepingRuns.{Around, AttendsAs, BeginsAs, FailsFirst, KeepsFrom, KeepsJournal, Stands, TakesSections}
use Rattle.rv_attend.specs.declared.attention.Attention.{Attention}
use Rattle.rv_attend.proofs.Ended.{runs_kept}

pub begins_same : (lasting : Bool) (first : Staffed) → lasting ≡ false → BeginsAs lasting first first
begins_same lasting first is = subst (λ (l : Bool). BeginsAs l first first) (sym is) refl

pub begins_by : (lasting : Bool) (first begun : Staffed) → lasting ≡ true → ChoresIn lasting first.control begun.control → begun.crew ≡ first.crew → BeginsAs lasting first begun
begins_by lasting first begun is chores crew =
    subst (λ (l : Bool). BeginsAs l first begun) (sym is) (subst (λ (l : Bool). ChoresIn l first.control begun.control) is chores, crew)

-- what a failure leaves
pub fails_on : (opened now : Known) (v : Passing) (next : ℕ) (failure : KeptFailure) → Stands {X = Found} opened now v next (Err failure)
    → Stands {X = Unit {0}} opened now v next (Err failure)
fails_on opened now v next (Run failure) stands = stands
fails_on opened now v next (File error) stands = stands

pub fails_first : (opened now : Known) (lasting : Bool) (first begun : Staffed) (next : ℕ) (failure : KeptFailure) → lasting ≡ true → BeginsAs lasting first begun
    → Stands {X = Unit {0}} opened now begun.control next (Err failure) → FailsFirst opened now lasting first (Err failure)
fails_first opened now lasting first begun next failure is begins stands =
    (is, (begun, subst (λ (l : Bool). BeginsAs l first begun) is begins, (next, stands)), tt)

pub attended_kept : (old new : Around) (asked : Attention) (input rest : Reading) (result : Ended) (bytes slice : List ℕ) (runs : Bool) (heard : List Piece)
    (told : Option (List Piece)) (first : Staffed) (capacity : ℕ) → slice ≡ bytes → OpensFor asked.quota slice first capacity → TakesSections old.heard heard told input rest bytes runs
    → AttendsAs old new (terms asked capacity) runs first rest heard told result → KeepsJournal old new asked input result
attended_kept old new asked input rest result bytes slice runs heard told first capacity same opened takes (inl attends) =
    inl (runs_kept old new asked input rest result bytes slice runs heard told first attends.0 capacity same opened takes attends.1 attends.2)
attended_kept old new asked input rest result bytes slice runs heard told first capacity same opened takes (inr (inl stops)) = inr (inl stops)
attended_kept old new asked input rest result bytes slice runs heard told first capacity same opened takes (inr (inr fails)) =
    inr (inr record { bytes = slice; first = first; opens = opened.0; fails = fails })
