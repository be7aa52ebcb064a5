-- The bodies that a text runs by, and what it leaves.
use Rattle.std.proofs.Common.{◌≡◌, ℕ, Bool, ◌-◌, List, [], ◌∷◌, refl, sym, ap, ◌∙◌, subst, ⊎_elim, arith, append-nil}
use Rattle.std.specs.Prelude.{Option}
use Rattle.rv_event.specs.declared.entry.Exit.{Exit}
use Rattle.rv_turn.specs.Passes.{Acted}
use Rattle.rv_turn.specs.Prefixes.{starts_self}
use Rattle.rv_behind.specs.Events.{by}
use Rattle.rv_behind.specs.Acting.{Does, IsLent, lent_view}
use Rattle.rv_port.specs.Traces.{Passing, Trace, Went}
use Rattle.rv_port.specs.Bodies.{marked}
use Rattle.rv_port.specs.Calls.{Stays}
use Rattle.rv_port.specs.Held.{held_by}
use Rattle.rv_port.specs.Texts.{TextRuns, TextLent, TextRan}
use Rattle.rv_behind.specs.declared.event.Lent.{Lent}
use Rattle.rv_behind.specs.declared.event.Event.{Event}
use Rattle.rv_behind.specs.declared.event.Ask.{Ask}
use Rattle.rv_behind.specs.declared.event.Ask.TheVariants as Wants
use Rattle.rv_behind.specs.declared.event.Reply.{Reply}
use Rattle.rv_behind.specs.declared.event.Reply.TheVariants as Gives
use Rattle.rv_port.proofs.Actors.{later_entry}
use Rattle.rv_port.proofs.Performing.{stays_self, stays_both, stays_by, went_stays}
use Rattle.rv_port.proofs.Stopped.{text_stops}

-- one act, whatever it asks
acted_stays : (v w : Passing) (ask : Ask) (reply : Reply) → Acted by Does v ask reply w → Stays v w
acted_stays v w ask reply a =
    let less : w.left ≡ v.left - 1 = ap (λ (k : Passing). k.left) a.same in
    stays_by v w w.own (v.left - 1) a.same (later_entry a.at v.seen v w a.later a.entry)
    (⊎_elim (λ x. ([], x.1 ∙ sym (append-nil v.own))) (λ x. (x.0 ∷ [], x.3)) a.entry) (omega (arith, less))

-- a text that ran by the bodies that were lent
unfoldable pub lent_run : (v u w : Passing) (mark same after : Bool) (budget : ℕ) (exit : Exit) (lent : Option Lent) (trace : Trace) → held_by v ≡ 0 → Acted by Does v Wants.Bodies (Gives.Bodies lent) u → same ≡ mark
    → TextRuns (lent_view lent) u.actor budget trace exit → Went u trace w → after ≡ marked same (lent_view lent) → TextLent v mark budget exit w after
lent_run v u w mark same after budget exit lent trace none a is runs went k = record {
  none_held = none;
  bodies = lent_view lent;
  lent = u;
  borrows = record { lent = lent; lent_is = refl; acted = a };
  trace = trace;
  runs = subst (λ (n : ℕ). TextRuns (lent_view lent) n budget trace exit) (ap (λ (z : Passing). z.actor) a.same) runs;
  went = went;
  stops = text_stops u.seen u w (lent_view lent) budget trace exit
      (subst (λ (l : List Event). IsLent l (lent_view lent)) (sym a.answer.2.1) a.answer.2.0) (starts_self u.seen)
      runs went;
  marked_is = k ∙ ap (λ (b : Bool). marked b (lent_view lent)) is;
}

pub ran_stays : (v w : Passing) (mark after : Bool) (budget : ℕ) (exit : Exit) → TextRan v mark budget exit w after → Stays v w
ran_stays v w mark after budget exit t = ⊎_elim (λ worn. subst (λ (z : Passing). Stays v z) (sym worn.0.1) (stays_self v))
    (λ y. ⊎_elim (λ barred. subst (λ (z : Passing). Stays v z) (sym barred.1) (stays_self v))
    (λ r. stays_both v r.lent w (acted_stays v r.lent Wants.Bodies (Gives.Bodies r.borrows.lent) r.borrows.acted) (went_stays r.lent w r.trace r.went)) y) t
