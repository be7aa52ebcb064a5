-- How texts end: what a run is told by, and that one which was stopped was so by one of its requests.
use Rattle.std.proofs.Common.{◌≡◌, ℕ, ◌∷◌, [], ◌++◌, Bool, true, Option, Some, None, refl, sym, ap, ◌∙◌, subst, inl, inr, ⊎_elim}
use Rattle.std.specs.Prelude.{is_some}
use Rattle.rv_code.specs.Bodies.{Body, UnitBodies}
use Rattle.rv_event.specs.declared.entry.Answer.{Answer}
use Rattle.rv_event.specs.declared.entry.Answer.TheVariants as Answers
use Rattle.rv_event.specs.declared.entry.Exit.{Exit}
use Rattle.rv_event.specs.declared.entry.Exit.TheVariants as Exits
use Rattle.rv_event.specs.declared.entry.Request.{Request}
use Rattle.rv_exec.specs.Bodies.{task_of}
use Rattle.rv_exec.specs.Stops.{is_final, stops_bodies}
use Rattle.rv_turn.specs.Passes.{Acted}
use Rattle.rv_behind.specs.Acting.{Does, lent_view}
use Rattle.rv_behind.specs.Events.{by}
use Rattle.rv_behind.specs.declared.event.Ask.TheVariants as Wants
use Rattle.rv_behind.specs.declared.event.Begun.{Begun}
use Rattle.rv_behind.specs.declared.event.Lent.{Lent}
use Rattle.rv_behind.specs.declared.event.Reply.TheVariants as Gives
use Rattle.rv_port.specs.declared.ended.Course.{Course}
use Rattle.rv_port.specs.declared.ended.Ending.{Ending}
use Rattle.rv_port.specs.declared.ended.Ending.TheVariants as Endings
use Rattle.rv_port.specs.Bodies.{IsHad}
use Rattle.rv_port.specs.Calls.{StopsBody, StoppedAt}
use Rattle.rv_port.specs.Endings.{stop_of, stop_or, first_of, past, fresh, ending_of, TellsWhy, RunsCourse, EndsBy, OwnEnds, LentEnds, OwnGoes, LentGoes, TextEnded, TextGoes}
use Rattle.rv_port.specs.Held.{held_by}
use Rattle.rv_port.specs.Texts.{TextLent, TextRan, TextStops}
use Rattle.rv_port.specs.Traces.{Passing, Trace, WoreOut, Settled, SettlesBehind, told}
use Rattle.rv_port.proofs.Performing.{had_lent}
use Rattle.rv_port.proofs.Texts.{lent_run}
use Rattle.rv_port.proofs.Finals.{final_is}

-- One request

pub course_told : (c d : Course) (v u w : Passing) (q : Request) (r t : Answer) (b : Begun) (lent : Option Lent) (held : ℕ) (stop : Option Ending) → Settled v q r b lent u → t ≡ told r → SettlesBehind r u w
    → held ≡ held_by v → stop ≡ stop_of r → d ≡ past c held q stop → RunsCourse c v ((q, t) ∷ []) d w
course_told c d v u w q r t b lent held stop s is behind count why e =
    (d, w, inl (r, u, s.0.asked, s.1, is, behind, e ∙ (λ i. past c (count i) q (why i))), (refl, refl))

pub course_worn : (c d : Course) (v w : Passing) (q : Request) (held : ℕ) → WoreOut v q w → held ≡ held_by v → d ≡ past c held q (Some Endings.Worn) → RunsCourse c v ((q, Answers.Full) ∷ []) d w
course_worn c d v w q held worn count e = (d, w, inr (worn, refl, e ∙ ap (λ (n : ℕ). past c n q (Some Endings.Worn)) count), (refl, refl))

-- What stopped a run stays

some_first : (a b : Option Ending) → is_some a ≡ true → is_some (first_of a b) ≡ true
some_first (Some k) b e = refl
some_first None b e = absurd (cc e)

some_other : (a b : Option Ending) → is_some b ≡ true → is_some (first_of a b) ≡ true
some_other (Some k) b e = refl
some_other None b e = e

stop_stays : (c d : Course) (v w : Passing) (xs : Trace) → RunsCourse c v xs d w → is_some c.stop ≡ true → is_some d.stop ≡ true
stop_stays c d v w [] t e = ap (λ (z : Course). is_some z.stop) t.1 ∙ e
stop_stays c d v w (x ∷ xs) t e = stop_stays t.0 d t.1 w xs t.3
    (⊎_elim (λ k. ap (λ (z : Course). is_some z.stop) k.6 ∙ some_first c.stop (stop_of k.0) e)
    (λ k. ap (λ (z : Course). is_some z.stop) k.2 ∙ some_first c.stop (Some Endings.Worn) e) t.2)

stop_some : (d : Answer) → is_some (stop_of d) ≡ stops_bodies d
stop_some Answers.Halted = refl
stop_some d = refl

-- what stopped a body was told Halted or Full
pub body_final : (v w : Passing) (q : Request) (r : Answer) → StopsBody v q r w → is_final r ≡ true
body_final v w q r t = ⊎_elim (λ k. ap is_final k.1) (λ k. ap is_final k.2 ∙ final_is k.0 ∙ k.3) t

final_noted : (c d : Course) (v w : Passing) (q : Request) (r : Answer) → TellsWhy c v q r d w → is_final r ≡ true → is_some d.stop ≡ true
final_noted c d v w q r t e =
    ⊎_elim (λ k. ap (λ (z : Course). is_some z.stop) k.6 ∙ some_other c.stop (stop_of k.0) (stop_some k.0 ∙ sym (final_is k.0) ∙ sym (ap is_final k.4) ∙ e))
    (λ k. ap (λ (z : Course). is_some z.stop) k.2 ∙ some_other c.stop (Some Endings.Worn) refl) t

final_stopped : (c d : Course) (v w : Passing) (before : Trace) (q : Request) (r : Answer) (behind : Trace) → RunsCourse c v (before ++ (q, r) ∷ behind) d w → is_final r ≡ true → is_some d.stop ≡ true
final_stopped c d v w [] q r behind t e = stop_stays t.0 d t.1 w behind t.3 (final_noted c t.0 v t.1 q r t.2 e)
final_stopped c d v w (x ∷ before) q r behind t e = final_stopped t.0 d t.1 w before q r behind t.3 e

stopped_some : (c d : Course) (v w : Passing) (trace : Trace) → RunsCourse c v trace d w → StoppedAt v trace → is_some d.stop ≡ true
stopped_some c d v w trace t s = final_stopped c d v w s.before s.request s.answer s.behind
    (subst (λ (l : Trace). RunsCourse c v l d w) s.asked_is t) (body_final s.asker s.after s.request s.answer s.reason)

-- So a text that was stopped was so by what its run says

stop_is : (o : Option Ending) (ending : Ending) → ending ≡ stop_or o → is_some o ≡ true → o ≡ Some ending
stop_is (Some k) ending e s = ap Some (sym e)
stop_is None ending e s = absurd (cc s)

ends_by : (exit : Exit) (budget : ℕ) (c : Course) (ending : Ending) → ending ≡ ending_of exit budget c → (exit ≡ Exits.Stopped → is_some c.stop ≡ true) → EndsBy exit budget c ending
ends_by (Exits.Return values) budget c ending e s = e
ends_by (Exits.Raise exception) budget c ending e s = e
ends_by Exits.Overrun budget c ending e s = e
ends_by Exits.Stopped budget c ending e s = stop_is c.stop ending e (s refl)

stopped_at : (bodies : UnitBodies) (exit : Exit) (v : Passing) (trace : Trace) → TextStops (Some bodies) exit v trace → exit ≡ Exits.Stopped → StoppedAt v trace
stopped_at bodies Exits.Stopped v trace t e = t
stopped_at bodies (Exits.Return values) v trace t e = absurd (cc e)
stopped_at bodies (Exits.Raise exception) v trace t e = absurd (cc e)
stopped_at bodies Exits.Overrun v trace t e = absurd (cc e)

own_ends : (task : Option Body) (budget : ℕ) (exit : Exit) (v : Passing) (trace : Trace) (w : Passing) (ending : Ending) → (exit ≡ Exits.Stopped → StoppedAt v trace) → OwnGoes task budget exit v trace w ending
    → OwnEnds task budget exit v trace w ending
own_ends None budget exit v trace w ending s t = t.2
own_ends (Some body) budget exit v trace w ending s t =
    (t.0, t.1, ends_by exit budget t.0 ending t.2 (λ e. stopped_some (fresh budget) t.0 v w trace t.1 (s e)))

lent_ends : (bodies : Option UnitBodies) (actor budget : ℕ) (exit : Exit) (v : Passing) (trace : Trace) (w : Passing) (ending : Ending) → TextStops bodies exit v trace → LentGoes bodies actor budget exit v trace w ending
    → LentEnds bodies actor budget exit v trace w ending
lent_ends None actor budget exit v trace w ending s t = t
lent_ends (Some bodies) actor budget exit v trace w ending s t =
    own_ends (task_of bodies actor) budget exit v trace w ending (λ e. stopped_at bodies exit v trace s e) t

-- By the bodies that were had

acted_had : (v u : Passing) (lent had : Option Lent) → IsHad lent had → Acted by Does v Wants.Bodies (Gives.Bodies lent) u → Acted by Does v Wants.Bodies (Gives.Bodies had) u
acted_had v u lent had had_is a = record {
  at = a.at;
  later = a.later;
  owned = a.owned;
  about = a.about;
  about_is = a.about_is;
  answer = (a.answer.0, a.answer.1, (had_lent a.at lent had had_is a.answer.2.0, a.answer.2.1));
  entry = a.entry;
  owns = a.owns;
  some_left = a.some_left;
  same = a.same;
}

pub ran_lent : (v u w : Passing) (mark same after : Bool) (budget : ℕ) (exit : Exit) (ending : Ending) (lent : Option Lent) → held_by v ≡ 0 → Acted by Does v Wants.Bodies (Gives.Bodies lent) u → same ≡ mark
    → TextGoes lent u same budget exit ending w after → TextRan v mark budget exit w after
ran_lent v u w mark same after budget exit ending lent none a is t =
    inr (inr (lent_run v u w mark same after budget exit t.had t.trace none (acted_had v u lent t.had t.had_is a) is t.runs t.went t.marked_is))

pub ended_lent : (v u w : Passing) (mark same after : Bool) (budget : ℕ) (exit : Exit) (ending : Ending) (lent : Option Lent) → held_by v ≡ 0 → Acted by Does v Wants.Bodies (Gives.Bodies lent) u → same ≡ mark
    → TextGoes lent u same budget exit ending w after → TextEnded v mark budget exit ending w after
unfolding lent_run
ended_lent v u w mark same after budget exit ending lent none a is t =
    let run : TextLent v mark budget exit w after = lent_run v u w mark same after budget exit t.had t.trace none (acted_had v u lent t.had t.had_is a) is t.runs t.went t.marked_is in
    inr (inr (
      run,
      lent_ends (lent_view t.had) v.actor budget exit u t.trace w ending run.stops
          (subst (λ (n : ℕ). LentGoes (lent_view t.had) n budget exit u t.trace w ending) (ap (λ (z : Passing). z.actor) a.same) t.goes),
    ))
