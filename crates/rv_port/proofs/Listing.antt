-- The lists that a control keeps are those of the operator's own events.
use Rattle.std.proofs.Common.{◌≡◌, ⊎_elim, ℕ, Bool, true, false, eqb, List, [], ◌∷◌, ◌++◌, if◌then◌else◌, ap, sym, subst, refl, ◌∙◌, append_assoc, append-nil}
use Rattle.std.specs.Prelude.{is_some, Option, Some, None, Result, Ok, IfOk}
use Rattle.atomic_table.specs.Seated.{TableId}
use Rattle.rv_access.specs.Changes.{changed}
use Rattle.rv_access.specs.Words.{Words}
use Rattle.rv_access.specs.declared.change.Change.{Change}
use Rattle.rv_event.specs.Recorded.{recorded}
use Rattle.rv_event.specs.declared.entry.Answer.{Answer}
use Rattle.rv_history.specs.declared.limits.Limits.{Limits}
use Rattle.rv_history.specs.Legal.{Legal}
use Rattle.rv_history.specs.History.{History, force}
use Rattle.rv_lists.specs.Kept.{with_list, with_changed}
use Rattle.rv_turn.specs.Histories.{mine}
use Rattle.rv_turn.specs.Passes.{opening_of}
use Rattle.rv_code.specs.declared.body.UnitBodies.{UnitBodies}
use Rattle.rv_behind.specs.Events.{by, log_of, history_at, lists_of}
use Rattle.rv_behind.specs.Acting.{BodiesFit, Changed, Due, IfOperator, listed}
use Rattle.rv_behind.specs.Adding.{MayAdd, due_adds}
use Rattle.rv_behind.specs.declared.event.Ask.{Ask}
use Rattle.rv_behind.specs.declared.event.Ask.TheVariants as Wants
use Rattle.rv_behind.specs.declared.event.Reply.{Reply}
use Rattle.rv_behind.specs.declared.event.Reply.TheVariants as Gives
use Rattle.rv_behind.specs.declared.event.Event.{Event}
use Rattle.rv_behind.specs.declared.event.Event.TheVariants.{Asks, Loads, Lists}
use Rattle.rv_behind.proofs.Doing.{catalogue_log}
use Rattle.rv_behind.proofs.Fitting.{newest_first}
use Rattle.rv_behind.proofs.Zips.{rebuilt}
use Rattle.rv_port.specs.Controls.{AreKept, IsControl, ListsNothing, answer_in, lists_at}
use Rattle.rv_port.proofs.Catalogues.{read_mine}

lists-append : (xs ys : List Event) → lists_of (xs ++ ys) ≡ lists_of ys ++ lists_of xs
lists-append [] ys = sym (append-nil (lists_of ys))
lists-append (Asks a q w ∷ xs) ys = lists-append xs ys
lists-append (Loads s u ∷ xs) ys = lists-append xs ys
lists-append (Lists l ∷ xs) ys = ap (λ (z : List (List Words)). z ++ l ∷ []) (lists-append xs ys) ∙ append_assoc (lists_of ys) (lists_of xs) (l ∷ [])

no_lists : (e : Event) → eqb (by e) 0 ≡ false → lists_of (e ∷ []) ≡ []
no_lists (Lists l) h = absurd (cc h)
no_lists e h = refl

lists_mine : (log : List Event) → lists_at (mine by 0 log) ≡ lists_at log
lists_mine log = read_mine lists_of lists-append no_lists log

-- two histories with the same events of the operator have the same lists
pub same_lists : (one two : List Event) → mine by 0 one ≡ mine by 0 two → lists_at one ≡ lists_at two
same_lists one two e = sym (lists_mine one) ∙ (ap lists_at e ∙ lists_mine two)

-- an ask that changes no list leaves them
event_lists : (log : List Event) (e : Event) (ask : Ask) → ListsNothing ask → MayAdd log e ask → lists_at (log ++ e ∷ []) ≡ lists_at log
event_lists log (Lists l) (Wants.Change change) n may = absurd n
event_lists log (Lists l) ask n may = absurd may
event_lists log e ask n may = newest_first lists_of log e

pub due_lists : (c : Limits) (log : List Event) (a : ℕ) (ask : Ask) (reply : Reply) (after : List Event) → ListsNothing ask → Due c log a ask reply after → lists_at after ≡ lists_at log
due_lists c log a ask reply after n d =
    ⊎_elim (λ same. ap lists_at same) (λ x. ap lists_at x.1 ∙ event_lists log x.0 ask n x.3) (due_adds c log a ask reply after d)

-- a change of the list
listed_lists : (list : Option (List Words)) (log : List Event) → lists_at (listed log list) ≡ with_list (lists_at log) list
listed_lists None log = refl
listed_lists (Some list) log = newest_first lists_of log (Lists list)

made_lists : (b : Bool) (list : Option (List Words)) (log : List Event) → b ≡ true → lists_at (if b then listed log list else log) ≡ with_list (lists_at log) list
made_lists true list log e = listed_lists list log
made_lists false list log e = absurd (cc e)

unmade_lists : (b : Bool) (list : Option (List Words)) (log : List Event) → b ≡ false → lists_at (if b then listed log list else log) ≡ lists_at log
unmade_lists true list log e = absurd (cc e)
unmade_lists false list log e = refl

by_operator : (c : Limits) (log : List Event) (a : ℕ) (change : Change) (r : Answer) (after : List Event) → a ≡ 0 → IfOperator (eqb a 0) (Changed c log change r after) r log after → Changed c log change r after
by_operator c log a change r after none d = subst (λ (n : ℕ). IfOperator (eqb n 0) (Changed c log change r after) r log after) none d

-- one that was accepted, and one that wasn't
pub change_made : (c : Limits) (log : List Event) (a : ℕ) (change : Change) (reply : Reply) (after : List Event) → a ≡ 0 → is_some (recorded (answer_in reply)) ≡ true
    → Due c log a (Wants.Change change) reply after → lists_at after ≡ with_changed (lists_at log) change
change_made c log a change (Gives.Answered r b lent) after none some d =
    ap lists_at (by_operator c log a change r after none d).1 ∙ made_lists (is_some (recorded r)) (changed (force (history_at c log)) change) log some
change_made c log a change reply after none some d = absurd d

pub change_unmade : (c : Limits) (log : List Event) (a : ℕ) (change : Change) (reply : Reply) (after : List Event) → a ≡ 0 → is_some (recorded (answer_in reply)) ≡ false
    → Due c log a (Wants.Change change) reply after → lists_at after ≡ lists_at log
change_unmade c log a change (Gives.Answered r b lent) after none unrecorded d =
    ap lists_at (by_operator c log a change r after none d).1 ∙ unmade_lists (is_some (recorded r)) (changed (force (history_at c log)) change) log unrecorded
change_unmade c log a change reply after none unrecorded d = absurd d

-- Lists that are kept

pub kept_along : (kept : Option (List (List Words))) (one two : List (List Words)) → one ≡ two → AreKept kept one → AreKept kept two
kept_along kept one two e k = λ some is. k some is ∙ e

pub is_kept : (lists before : List (List Words)) → lists ≡ before → AreKept (Some lists) before
is_kept lists before e = λ some is. let same : lists ≡ some = cc in sym same ∙ e

pub none_kept : (before : List (List Words)) → AreKept None before
none_kept before = λ some is. absurd (cc is)

pub ok_is : {X E : Type 0} (made : Result X E) (x y : X) → made ≡ Ok x → IfOk made (λ z. z ≡ y) → x ≡ y
ok_is {X} {E} made x y is same = let P : Result X E → Type 0 = λ r. IfOk r (λ z. z ≡ y) in subst P is same

-- a new control
pub opened : (turn : TableId) (h : History) (us : List UnitBodies) → Legal h → BodiesFit (log_of h us) → IsControl turn (opening_of turn h.limits by (log_of h us)) [] h.shapes (Some h.lists)
opened turn h us l fit = record {
  here = refl;
  first = refl;
  operator = refl;
  given_is = refl;
  owns = sym (append-nil (mine by 0 (log_of h us)));
  limited = refl;
  catalogue_is = sym (catalogue_log h us l);
  lists_are = is_kept h.lists (lists_at (log_of h us)) (sym (ap (λ (z : History). z.lists) (rebuilt h us l)));
  fit = fit;
}
