-- An attended run, from its first threads to the end of its file.
use Rattle.std.proofs.Common.{◌≡◌, ℕ, Bool, List, [], Option, Some, Ok, Err, IfOk, inl, inr, refl, sym, ap, subst}
use Rattle.rv_follow.specs.Following.{ClosesFile, IsKept}
use Rattle.rv_feed.specs.declared.piece.Piece.{Piece}
use Rattle.rv_history.specs.History.{History}
use Rattle.rv_input.specs.Coming.{Reading}
use Rattle.rv_keep.specs.Keeping.{Known}
use Rattle.rv_run.specs.Beside.{Ended, Moment}
use Rattle.rv_run.specs.FinishingBeside.{CountsWith, FinishesWith, PlaysWith, UnclosedWith}
use Rattle.rv_run.specs.Running.{OpensFor}
use Rattle.rv_staff.specs.Staffs.{Staffed}
use Rattle.rv_attend.specs.Attending.{come, point}
use Rattle.rv_attend.specs.Going.{Terms, terms}
use Rattle.rv_attend.specs.Holding.{Holding, attended, point_of}
use Rattle.rv_attend.specs.KeepingRuns.{BeginsAs, Around, EndsKept, KeepsFrom, LeavesKept, RunsKept, Stands, TakesSections, around}
use Rattle.rv_attend.specs.declared.attention.Attention.{Attention}
use Rattle.rv_attend.proofs.Keeping.{leaves_by, leaving_by, whole_closes}
use Rattle.rv_attend.proofs.Lasted.{goes_last}
use Rattle.rv_attend.proofs.Served.{goes_attended}

counted : (old new : Known) (entries : ℕ) (opened now : Known) (h : History) (kept result : Ended) → CountsWith old new entries kept result
    → ClosesFile opened now h kept → ClosesFile opened now h result
counted old new entries opened now h (Ok x) result counts closes = whole_closes opened now h result closes
counted old new entries opened now h (Err failure) result counts closes = subst (λ (r : Ended). ClosesFile opened now h r) (sym counts.1) closes

failed : (served result : Ended) → UnclosedWith served result → IfOk result (λ x. ⊥)
failed (Ok x) (Ok y) ends = cc ends
failed (Ok x) (Err failure) ends = tt
failed (Err failure) (Ok y) ends = cc ends
failed (Err failure) (Err other) ends = tt

ends : {C : Type 0} (holds : C → Holding) (opened : Known) (m : Moment C) (chores : C) (written errors : Known) (served result : Ended)
    → FinishesWith (attended holds) m chores written errors served result
    → Stands opened (holds m.chores).file m.stage.staff.control (holds m.chores).next served
    → EndsKept opened (around (holds chores).file written (holds chores).heard (holds chores).told) (holds m.chores).terms m.stage.staff m.stage.written served result
ends holds opened m chores written errors served result (inl leaves) stands =
    let takes = leaves.takes in
    let closes = takes.closes.written opened (leaving_by opened (holds m.chores).file (holds m.chores).next m.stage.staff leaves.closed served leaves.hurried leaves.ended stands) in
    inl record {
      closed = leaves.closed;
      hurried = leaves.hurried;
      hurries = leaves.hurries;
      ended = leaves.ended;
      kept = counted m.stage.written written _ opened (holds chores).file leaves.closed.host takes.kept result takes.counted closes;
      wrote = takes.kept;
      tied = takes.closes.ends;
      counted = takes.counted;
    }
ends holds opened m chores written errors served result (inr left) stands = inr record {
  kept = subst (λ (c : _). LeavesKept opened (holds c).file m.stage.staff result) (sym left.idle)
      (leaves_by opened (holds m.chores).file (holds m.chores).next m.stage.staff served result (failed served result left.ends) stands);
  silent = left.silent;
  tied = left.ends;
}

-- what was heard stays as it was
still : {C : Type 0} (holds : C → Holding) (m : Moment C) (chores : C) (written errors : Known) (served result : Ended)
    → FinishesWith (attended holds) m chores written errors served result
    → ((holds chores).heard ≡ (holds m.chores).heard) × ((holds chores).told ≡ (holds m.chores).told)
still holds m chores written errors served result (inl leaves) = (leaves.takes.closes.heard, leaves.takes.closes.told)
still holds m chores written errors served result (inr left) = (ap (λ c. (holds c).heard) left.idle, ap (λ c. (holds c).told) left.idle)

pub keeps_from : {C : Type 0} (holds : C → Holding) (opened : Known) (runs : Bool) (m : Moment C) (chores : C) (written errors : Known) (result : Ended)
    → PlaysWith (attended holds) runs m chores written errors result → m.stage.left ≡ Some []
    → IsKept opened (holds m.chores).file m.stage.staff.control (holds m.chores).next
    → KeepsFrom opened (holds m.chores).terms runs (point_of holds m) (around (holds chores).file written (holds chores).heard (holds chores).told) result
keeps_from holds opened runs m chores written errors result plays unread kept =
    let lasts = goes_last holds runs m plays.last plays.served plays.goes in
    let same = still holds plays.last chores written errors plays.served result plays.finishes in
    record {
      last = point_of holds plays.last;
      served = plays.served;
      goes = λ plain.
          goes_attended holds (holds m.chores).terms opened runs m plays.last plays.served (record { plain = plain; same = refl; unread = unread; kept = kept }) plays.goes;
      later = lasts.1;
      ends =
          subst (λ (t : Terms). EndsKept opened (around (holds chores).file written (holds chores).heard (holds chores).told) t plays.last.stage.staff plays.last.stage.written plays.served result)
          lasts.2 (ends holds opened plays.last chores written errors plays.served result plays.finishes (lasts.0 opened kept));
      heard = same.0;
      told = same.1;
    }

-- the settings of a script say how many entries its journal may have
pub runs_kept : (old new : Around) (asked : Attention) (input rest : Reading) (result : Ended) (bytes slice : List ℕ) (runs : Bool) (heard : List Piece)
    (told : Option (List Piece)) (first begun : Staffed) (capacity : ℕ) → slice ≡ bytes → OpensFor asked.quota slice first capacity → TakesSections old.heard heard told input rest bytes runs
    → BeginsAs asked.lasting first begun → KeepsFrom old.file (terms asked capacity) runs (point (come begun old.written rest) heard told) new result → RunsKept old new asked input result
runs_kept old new asked input rest result bytes slice runs heard told first begun capacity same opened takes begins keeps =
    let opens : OpensFor asked.quota bytes first capacity = subst (λ (b : List ℕ). OpensFor asked.quota b first capacity) same opened in
    record {
      bytes = bytes;
      runs = runs;
      rest = rest;
      heard = heard;
      told = told;
      takes = takes;
      first = first;
      opens = opens.0;
      begun = begun;
      begins = begins;
      keeps = subst (λ (n : ℕ). KeepsFrom old.file (terms asked n) runs (point (come begun old.written rest) heard told) new result) opens.1 keeps;
    }
