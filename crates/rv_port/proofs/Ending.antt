-- What a body that started came to.
use Rattle.std.proofs.Common.{◌≡◌, ◌⊎◌, ℕ, Bool, true, false, eqb, eq-eqb, List, [], ◌∷◌, ◌++◌, Option, Some, None, refl, sym, ap, ◌∙◌, subst, inl, inr, ⊎_elim, append_assoc}
use Rattle.std.specs.Prelude.{ℤ}
use Rattle.rv_code.specs.Bodies.{UnitBodies}
use Rattle.rv_exec.specs.Stops.{StopsIn}
use Rattle.rv_event.specs.declared.entry.Request.{Request}
use Rattle.rv_event.specs.declared.entry.Request.TheVariants.{Complete}
use Rattle.rv_event.specs.declared.entry.Exit.{Exit}
use Rattle.rv_event.specs.declared.entry.Exit.TheVariants as Exits
use Rattle.rv_event.specs.declared.entry.Next.{Next}
use Rattle.rv_event.specs.declared.entry.Answer.{Answer}
use Rattle.rv_event.specs.declared.entry.Answer.TheVariants as Answers
use Rattle.rv_event.specs.declared.entry.Recorded.TheVariants as Words
use Rattle.rv_behind.specs.declared.event.Begun.{Begun}
use Rattle.rv_behind.specs.declared.event.Event.{Event}
use Rattle.rv_behind.specs.declared.event.Event.TheVariants.{Asks}
use Rattle.rv_port.specs.declared.body.Ended.{Ended}
use Rattle.rv_port.specs.declared.reached.Reached.{Reached}
use Rattle.rv_port.specs.declared.reached.Reached.TheVariants as Reaches
use Rattle.rv_fits.specs.Fits.{callee_fits}
use Rattle.rv_behind.specs.Acting.{IsLent}
use Rattle.rv_port.proofs.Fitting.{lent_calls}
use Rattle.rv_behind.specs.Events.{catalogue_of, history_at}
use Rattle.rv_accounts.specs.Seen.{but_settles}
use Rattle.rv_port.specs.Traces.{Passing, limits_in, Trace, noted, drops, SettlesBehind, WoreOut, Went, Asked}
use Rattle.rv_port.specs.Reaching.{reached_by, end_of}
use Rattle.rv_port.specs.Bodies.{Runs}
use Rattle.rv_port.specs.Held.{held_by, Owns}
use Rattle.rv_port.specs.Calls.{AreSettles, EndsIf, RanOn, InBody, EndedBy, stops_at, StoppedAsking, StoppedAt, StoppedInside, LeftInside, Tied}
use Rattle.rv_port.proofs.Asking.{asked_later}
use Rattle.rv_port.proofs.Gets.{of_end, end_gets}
use Rattle.rv_port.proofs.Settles.{none_behind, settles_events, settles_to}
use Rattle.rv_port.proofs.Performing.{stays_both, went_stays}
use Rattle.rv_port.proofs.Stopped.{stop_at, runs_stop}
use Rattle.rv_port.proofs.Straying.{no_strays}
use Rattle.rv_port.proofs.Holding.{held_went}
use Rattle.rv_meant.specs.Asks.{held_behind}
use Rattle.rv_meant.specs.Nested.{by_stopped}
use Rattle.rv_meant.proofs.NestedBodies.{bodies_nest}
use Rattle.rv_turn.specs.Histories.{StartsWith}
use Rattle.rv_turn.specs.Prefixes.{starts_both}
use Rattle.rv_port.proofs.Opening.{new_later, Opened}

-- What a body that started came to

pub record LastEnd (u : Passing) (exit : Exit) (w : Passing) : Type 0 where
  pub asked : Trace
  pub scalars : List ℤ
  pub next : Next
  pub inside : List Event
  pub inside_is : but_settles inside ≡ noted u.actor asked
  pub behind : List Event
  pub settles : AreSettles u.actor next behind
  pub own_is : w.own ≡ u.own ++ (inside ++ Asks u.actor (Complete scalars exit) (Words.Done next) ∷ behind)
  pub later : StartsWith w.seen u.seen

-- its end was asked in vain
pub record NoEnd (u w : Passing) : Type 0 where
  pub asked : Trace
  pub body : Passing
  pub went : Went u asked body
  pub scalars : List ℤ
  pub exit : Exit
  pub reason : WoreOut body (Complete scalars exit) w ⊎ ((d : Answer) × Asked body (Complete scalars exit) d w × (stops_at (Complete scalars exit) d ≡ true))

-- its end wasn't asked, since its actor is left in a body that it called
pub record LeftIn (u w : Passing) : Type 0 where
  pub asked : Trace
  pub went : Went u asked w
  pub stopped : StoppedAt u asked

abbrev RanTo : Passing → Reached → Passing → Type 0
RanTo u (Reaches.Returned values) w = LastEnd u (Exits.Return values) w
RanTo u (Reaches.Raised exception) w = (exit : Exit) × (reached_by exit ≡ Reaches.Raised exception) × LastEnd u exit w
RanTo u Reaches.Stopped w = NoEnd u w ⊎ (((t : LastEnd u Exits.Stopped w) × StoppedAt u t.asked) ⊎ LeftIn u w)
RanTo u reached w = ⊥

ended_by : (v u w : Passing) (q : Request) (exit : Exit) → Opened v q u → LastEnd u exit w → EndedBy v q exit w
ended_by v u w q exit o t = record {
  first = o.first;
  start = o.start;
  opens = o.opens;
  is_new = new_later o.start v.seen u.seen w.seen o.is_new t.later;
  asked = t.asked;
  scalars = t.scalars;
  next = t.next;
  inside = t.inside;
  inside_is = t.inside_is ∙ ap (λ (n : ℕ). noted n t.asked) o.actor_is;
  behind = t.behind;
  settles = subst (λ (n : ℕ). AreSettles n t.next t.behind) o.actor_is t.settles;
  own_is = subst (λ (n : ℕ). w.own ≡ u.own ++ (t.inside ++ Asks n (Complete t.scalars exit) (Words.Done t.next) ∷ t.behind)) o.actor_is t.own_is
      ∙ (ap (λ (l : List Event). l ++ (t.inside ++ Asks v.actor (Complete t.scalars exit) (Words.Done t.next) ∷ t.behind)) o.own_is
      ∙ append_assoc v.own o.first (t.inside ++ Asks v.actor (Complete t.scalars exit) (Words.Done t.next) ∷ t.behind));
}

in_body : (v u k : Passing) (q : Request) (asked : Trace) → Opened v q u → Went u asked k → InBody v q asked k
in_body v u k q asked o t = record {
  first = o.first;
  start = o.start;
  opens = o.opens;
  is_new = new_later o.start v.seen u.seen k.seen o.is_new t.later;
  inside = t.grew.more;
  inside_is = t.grew.pairs ∙ ap (λ (n : ℕ). noted n asked) o.actor_is;
  own_is = t.grew.own_is ∙ (ap (λ (l : List Event). l ++ t.grew.more) o.own_is ∙ append_assoc v.own o.first t.grew.more);
}

no_end : (v u w : Passing) (q : Request) → Opened v q u → NoEnd u w → StoppedAsking v q w
no_end v u w q o t = record {
  asker = t.body;
  same = stays_both v u t.body o.stays (went_stays u t.body t.asked t.went);
  request = Complete t.scalars t.exit;
  last = inr (inr (t.asked, in_body v u t.body q t.asked o t.went, t.scalars, t.exit, refl));
  reason = t.reason;
}

stopped_inside : (v u w : Passing) (q : Request) → Opened v q u → (t : LastEnd u Exits.Stopped w) → StoppedAt u t.asked → StoppedInside v q w
unfolding ended_by
stopped_inside v u w q o t s = record {
  ended = ended_by v u w q Exits.Stopped o t;
  before = s.before;
  asker = s.asker;
  inside = in_body v u s.asker q s.before o s.went;
  same = stays_both v u s.asker o.stays (went_stays u s.asker s.before s.went);
  request = s.request;
  answer = s.answer;
  after = s.after;
  reason = s.reason;
  behind = s.behind;
  unwinds = s.unwinds;
  asked_is = s.asked_is;
}

left_inside : (v u w : Passing) (q : Request) → Opened v q u → LeftIn u w → LeftInside v q w
left_inside v u w q o t = record { asked = t.asked; inside = in_body v u w q t.asked o t.went; start = u; same = o.stays; went = t.went; stopped = t.stopped }

pub tied_body : (v u w : Passing) (q : Request) (reached : Reached) → Opened v q u → RanTo u reached w → Tied v q reached w
tied_body v u w q (Reaches.Returned values) o t = inl (ended_by v u w q (Exits.Return values) o t)
tied_body v u w q (Reaches.Raised e) o t = (t.0, t.1, ended_by v u w q t.0 o t.2)
tied_body v u w q Reaches.Stopped o t = ⊎_elim (λ none. inl (no_end v u w q o none)) (λ k. ⊎_elim (λ l. inr (inl (stopped_inside v u w q o l.0 l.1))) (λ l. inr (inr (left_inside v u w q o l))) k) t
tied_body v u w q (Reaches.Refused rule line version) o t = absurd t
tied_body v u w q Reaches.Misuse o t = absurd t

-- its end and the settles behind it are what is new behind what it asked
end_own : (u k m w : Passing) (more behind : List Event) (e : Event) → k.own ≡ u.own ++ more → m.own ≡ k.own ++ e ∷ [] → w.own ≡ m.own ++ behind → w.own ≡ u.own ++ (more ++ e ∷ behind)
end_own u k m w more behind e p q r =
    r ∙ (ap (λ (l : List Event). l ++ behind) (q ∙ ap (λ (l : List Event). l ++ e ∷ []) p)
    ∙ (append_assoc (u.own ++ more) (e ∷ []) behind ∙ append_assoc u.own more (e ∷ behind)))

done_last : (u m w : Passing) (trace : Trace) (k : Passing) (scalars : List ℤ) (exit : Exit) (next : Next) → Went u trace k → Asked k (Complete scalars exit) (Answers.Done next) m → SettlesBehind (Answers.Done next) m w → LastEnd u exit w
done_last u m w trace k scalars exit next p x b =
    let s = settles_events next m w b in
    let same : k.actor ≡ u.actor = ap (λ (z : Passing). z.actor) p.same in record {
      asked = trace;
      scalars = scalars;
      next = next;
      inside = p.grew.more;
      inside_is = p.grew.pairs;
      behind = s.0;
      settles = subst (λ (n : ℕ). AreSettles n next s.0) (ap (λ (z : Passing). z.actor) x.same ∙ same) s.2;
      own_is = end_own u k m w p.grew.more s.0 (Asks u.actor (Complete scalars exit) (Words.Done next)) p.grew.own_is
          (x.own_is ∙ ap (λ (n : ℕ). k.own ++ Asks n (Complete scalars exit) (Words.Done next) ∷ []) same) s.1;
      later = starts_both u.seen m.seen w.seen (starts_both u.seen k.seen m.seen p.later (asked_later k m _ _ x)) (settles_to m w (Answers.Done next) b).later;
    }

by_exit : (u w : Passing) (exit : Exit) (t : LastEnd u exit w) → (exit ≡ Exits.Stopped → StoppedAt u t.asked) → RanTo u (reached_by exit) w
by_exit u w (Exits.Return values) t f = t
by_exit u w (Exits.Raise e) t f = (Exits.Raise e, refl, t)
by_exit u w Exits.Overrun t f = (Exits.Overrun, refl, t)
by_exit u w Exits.Stopped t f = inr (inl (t, f refl))

-- the answer to its end stops the call
stopped_end : (u m w : Passing) (trace : Trace) (k : Passing) (scalars : List ℤ) (exit : Exit) (d : Answer) → Went u trace k → Asked k (Complete scalars exit) d m → stops_at (Complete scalars exit) d ≡ true → drops d ≡ false → SettlesBehind d m w → NoEnd u w
stopped_end u m w trace k scalars exit d p x e none b =
    record { asked = trace; body = k; went = p; scalars = scalars; exit = exit; reason = inr (d, subst (λ (z : Passing). Asked k (Complete scalars exit) d z) (sym (none_behind m w d none b)) x, e) }

ran_end : (log : List Event) (u m w : Passing) (trace : Trace) (k : Passing) (scalars : List ℤ) (exit : Exit) (d : Answer) → StartsWith u.seen log → Went u trace k → Asked k (Complete scalars exit) d m → SettlesBehind d m w → of_end d ≡ true → (exit ≡ Exits.Stopped → StopsIn (callee_fits (catalogue_of log)) trace) → RanTo u (end_of d exit) w
unfolding done_last
ran_end log u m w trace k scalars exit (Answers.Done next) later p x b e f = by_exit u w exit (done_last u m w trace k scalars exit next p x b) (λ is. stop_at log u trace k p.asks later (f is) p.steps)
ran_end log u m w trace k scalars exit Answers.Misuse later p x b e f = inl (stopped_end u m w trace k scalars exit Answers.Misuse p x refl refl b)
ran_end log u m w trace k scalars exit Answers.Full later p x b e f = inl (stopped_end u m w trace k scalars exit Answers.Full p x refl refl b)
ran_end log u m w trace k scalars exit d later p x b e f = absurd (cc e)

ended_so : (v w : Passing) (scalars : List ℤ) (exit : Exit) (d : Answer) → Asked v (Complete scalars exit) d w → of_end d ≡ true
ended_so v w scalars exit d x = ap of_end x.due_is ∙ end_gets (history_at (limits_in v.about) x.at) v.actor scalars exit

-- A body that is left by its actor was stopped

is_by_stopped : (exit : Exit) → by_stopped exit ≡ true → exit ≡ Exits.Stopped
is_by_stopped (Exits.Return values) e = absurd (cc e)
is_by_stopped (Exits.Raise exception) e = absurd (cc e)
is_by_stopped Exits.Overrun e = absurd (cc e)
is_by_stopped Exits.Stopped e = refl

unlike : {X : Type 0} (n m : ℕ) → n ≡ m → eqb n m ≡ false → X
unlike n m e f = absurd (cc (eq-eqb n m e, f))

left_stops : (log : List Event) (u k : Passing) (bodies : Option UnitBodies) (b : Begun) (scalars arguments : List ℤ) (trace : Trace) (last : Ended) → IsLent log bodies → StartsWith u.seen log → Runs bodies (held_by u) b scalars arguments trace last
    → Went u trace k → Owns u → Owns k → eqb (held_by k) (held_by u) ≡ false → last.exit ≡ Exits.Stopped
left_stops log u k None b scalars arguments trace last lent later t p own owned n =
    unlike (held_by k) (held_by u) (held_went u k trace own owned p ∙ ap (λ (l : Trace). held_behind (held_by u) l) t.0) n
left_stops log u k (Some bodies) b scalars arguments trace last lent later t p own owned n =
    let nested = bodies_nest (callee_fits (catalogue_of log)) bodies (held_by u) b.object b.operation arguments scalars t.0 trace last.exit (lent_calls log bodies lent) t.1 in
    is_by_stopped last.exit
    (⊎_elim (λ s. no_strays log u trace k later p.asks p.steps s)
    (λ h. ⊎_elim (λ w. unlike (held_by k) (held_by u) (held_went u k trace own owned p ∙ w.0 (held_by u)) n) (λ m. m.0) h) nested.course)

pub ran_to : (log : List Event) (u w : Passing) (bodies : Option UnitBodies) (b : Begun) (scalars arguments : List ℤ) (reached : Reached) → IsLent log bodies → StartsWith u.seen log → Owns u → RanOn bodies u b scalars arguments reached w → RanTo u reached w
ran_to log u w bodies b scalars arguments reached lent later own n = by_held (eqb (held_by n.body) (held_by u)) refl n.end_is where
  by_held : (k : Bool) → eqb (held_by n.body) (held_by u) ≡ k → EndsIf k n.body (Complete n.ended.scalars n.ended.exit) n.ended.exit reached w → RanTo u reached w
  by_held true is e =
      ⊎_elim (λ wore. subst (λ (z : Reached). RanTo u z w) (sym wore.1) (inl (record { asked = n.trace; body = n.body; went = n.went; scalars = n.ended.scalars; exit = n.ended.exit; reason = inl wore.0 })))
      (λ t. subst (λ (z : Reached). RanTo u z w) (sym t.4) (ran_end log u t.1 w n.trace n.body n.ended.scalars n.ended.exit t.0 later n.went t.2 t.5 (ended_so n.body t.1 n.ended.scalars n.ended.exit t.0 t.2) (runs_stop log bodies (held_by u) b scalars arguments n.trace n.ended lent n.runs))) e
  by_held false is e =
      let stopped : n.ended.exit ≡ Exits.Stopped = left_stops log u n.body bodies b scalars arguments n.trace n.ended lent later n.runs n.went own n.owned is in
      subst (λ (z : Passing × Reached). RanTo u z.1 z.0) (λ i. (sym e.0 i, sym e.1 i))
      (inr (inr (record { asked = n.trace; went = n.went; stopped = stop_at log u n.trace n.body n.went.asks later (runs_stop log bodies (held_by u) b scalars arguments n.trace n.ended lent n.runs stopped) n.went.steps })))
