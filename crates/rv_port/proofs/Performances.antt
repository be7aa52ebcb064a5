-- What a performance leaves explained.
use Rattle.std.proofs.Common.{◌≡◌, inl, inr, ⊎_elim, ℕ, ℤ, List, [], ◌∷◌, ◌++◌, Bool, true, false, cond, eqb, ◌-◌, refl, sym, ap, ◌∙◌, subst, append_assoc, Option, Some, None}
use Rattle.std.specs.Prelude.{is_some}
use Rattle.std.proofs.lemmas.Bool.{eqb-true}
use Rattle.rv_shape.specs.Shape.{Shape}
use Rattle.rv_shape.specs.Catalogue.{OperationNumber, target, shares, handler}
use Rattle.rv_code.specs.Bodies.{UnitBodies}
use Rattle.rv_event.specs.Recorded.{recorded}
use Rattle.rv_event.specs.declared.entry.Answer.{Answer}
use Rattle.rv_event.specs.declared.entry.Answer.TheVariants as Answers
use Rattle.rv_event.specs.declared.entry.Exit.{Exit}
use Rattle.rv_event.specs.declared.entry.Next.{Next}
use Rattle.rv_event.specs.declared.entry.Recorded.TheVariants as Words
use Rattle.rv_event.specs.declared.entry.Request.{Request}
use Rattle.rv_event.specs.declared.entry.Request.TheVariants.{Call, Complete, Resume, DelayUntil, Clock, Fire}
use Rattle.rv_exec.specs.Asking.{Along}
use Rattle.rv_exec.specs.Blocks.{operation_run_at}
use Rattle.rv_event.specs.declared.entry.Recorded.{Recorded}
use Rattle.rv_history.specs.declared.limits.Limits.{Limits}
use Rattle.rv_history.specs.Due.{out}
use Rattle.rv_turn.specs.Histories.{StartsWith}
use Rattle.rv_turn.specs.Prefixes.{starts_both}
use Rattle.rv_meant.specs.Asks.{held_behind, AreRecorded}
use Rattle.rv_meant.specs.Explained.{Handles, StartsBody, on_protected}
use Rattle.rv_meant.proofs.Nesting.{recorded_both}
use Rattle.rv_meant.proofs.NestedBodies.{scalars_in, exit_in}
use Rattle.rv_behind.specs.Acting.{IsLent}
use Rattle.rv_behind.specs.Events.{bodies_at, catalogue_of, called, begun_by_handler, history_at}
use Rattle.rv_behind.specs.declared.event.Begun.{Begun}
use Rattle.rv_behind.specs.declared.event.Event.{Event}
use Rattle.rv_accounts.specs.Explained.{ExplainedEnd, Explained}
use Rattle.rv_accounts.proofs.Staying.{stays}
use Rattle.rv_port.specs.Actors.{HasHandler}
use Rattle.rv_port.specs.Bodies.{marked}
use Rattle.rv_port.specs.Calls.{IsPause, EndsIf, RanOn, Ran, Resumed, Waited, Followed, Performed}
use Rattle.rv_port.specs.Held.{asked_so_far, held_by, Owns}
use Rattle.rv_port.specs.Reaching.{Performs, arguments_of, waited_for}
use Rattle.rv_port.specs.Traces.{Passing, Trace, limits_in, Asked}
use Rattle.rv_port.specs.declared.reached.Reached.{Reached}
use Rattle.rv_port.proofs.Actors.{catalogue-append}
use Rattle.rv_port.proofs.Actors.{handler_later as handler_at}
use Rattle.rv_port.proofs.Holding.{held_went}
use Rattle.rv_port.proofs.Asking.{asked_grown}
use Rattle.rv_port.proofs.Gets.{calls, of_first, first_gets}
use Rattle.rv_port.proofs.Opening.{Waits}
use Rattle.rv_port.proofs.Performing.{asked_actor}
use Rattle.rv_port.proofs.Resuming.{pause_unnamed}
use Rattle.rv_port.proofs.Tying.{pause_at, suspends, delayed}
use Rattle.rv_port.specs.Ends.{EndsExplained, ExplainedUnless}
use Rattle.rv_port.proofs.Ends.{IsLentBy, RanSo, given_at}
use Rattle.rv_port.proofs.Asked.{asked_explained, settles_explained, vain_explained, asked_more, all_recorded}
use Rattle.rv_port.proofs.OwnEnds.{own_ends}
use Rattle.rv_port.proofs.Since.{bodies_leave}
use Rattle.rv_port.proofs.Starts.{begins, unlike, call_begins, fire_begins, queue_shares, target_later, handler_later, delay_begins_not, clock_begins_not}

-- The start of a body: what its actor asked, of which the last opened it, and what it started on.
pub record Start (u : Passing) (log : List Event) (b : Begun) (arguments scalars : List ℤ) : Type 0 where
  pub early : Trace
  pub opening : Trace
  pub asked : asked_so_far u ≡ early ++ opening
  pub recorded : AreRecorded (early ++ opening)
  pub from : StartsWith u.seen log
  pub loaded : on_protected (target (catalogue_of log) b.object b.operation) ≡ true
  pub shared : b.is_function ≡ shares (target (catalogue_of log) b.object b.operation)
  pub starts : (at : List Event) → StartsWith at log → StartsBody (catalogue_of at) u.actor opening b.object b.operation arguments scalars

-- the target in a later catalogue
pub same_target : (log at : List Event) (o p : ℕ) → StartsWith at log → on_protected (target (catalogue_of log) o p) ≡ true → target (catalogue_of at) o p ≡ target (catalogue_of log) o p
same_target log at o p w e =
    ap (λ (l : List Event). target (catalogue_of l) o p) w.1
    ∙ (ap (λ s. target s o p) (catalogue-append log w.0) ∙ target_later (catalogue_of log) (catalogue_of w.0) o p e)

module _ (u w : Passing) (log : List Event) (bodies : UnitBodies) (b : Begun) (scalars arguments : List ℤ) (reached : Reached) (st : Start u log b arguments scalars) (owns : Owns u) (owned : Owns w)
    (lent : IsLent log (Some bodies)) (n : RanOn (Some bodies) u b scalars arguments reached w) (old : EndsExplained u) where
  k : IsLentBy u log
  k = record { owns = owns; from = st.from; fit = lent.1 }

  abbrev left : List ℤ
  left = n.runs.0

  along : Along (operation_run_at (bodies_at log) (held_by u) b.object b.operation arguments scalars) n.trace (n.ended.exit, left)
  along = subst (λ (z : UnitBodies). Along (operation_run_at z (held_by u) b.object b.operation arguments scalars) n.trace (n.ended.exit, left)) lent.0 n.runs.1

  limits_are : limits_in n.body.about ≡ limits_in u.about
  limits_are = ap (λ (z : Passing). limits_in z.about) n.went.same

  actor_is : n.body.actor ≡ u.actor
  actor_is = ap (λ (z : Passing). z.actor) n.went.same

  body_explained : EndsExplained n.body
  body_explained =
      subst (λ (z : Limits × ℕ). Explained z.0 n.body.seen z.1) (λ i. (sym limits_are i, sym actor_is i))
      (stays (limits_in u.about) u.seen n.body.seen u.actor n.went.later old
      (λ before after values exit next p e. bodies_leave u n.body n.trace log b.object b.operation arguments scalars left n.ended.exit k n.went n.owned along before after values exit next p e))

  abbrev asks : Request
  asks = Complete n.ended.scalars n.ended.exit

  held_at : held_by u ≡ held_behind 0 (st.early ++ st.opening)
  held_at = ap (λ (t : Trace). held_behind 0 t) st.asked

  ran_so : held_by n.body ≡ held_by u → RanSo u log st.early st.opening b.object b.operation arguments scalars left n.ended.exit n.trace n.body
  ran_so same = record {
    lent = k;
    asked = st.asked;
    recorded = st.recorded;
    loaded = st.loaded;
    along = subst (λ (m : ℕ). Along (operation_run_at (bodies_at log) m b.object b.operation arguments scalars) n.trace (n.ended.exit, left)) held_at along;
    went = n.went;
    back = subst (λ (m : ℕ). held_behind m n.trace ≡ m) held_at (sym (held_went u n.body n.trace owns n.owned n.went) ∙ same);
  }

  later_at : (at : List Event) → StartsWith at n.body.seen → StartsWith at log
  later_at at from = starts_both log u.seen at st.from (starts_both u.seen n.body.seen at n.went.later from)

  given_is : (at : List Event) → StartsWith at log → given_at at b.object b.operation left ≡ n.ended.scalars
  given_is at from =
      sym (n.runs.2 ∙ ap (λ (z : Bool). cond z [] left) (st.shared ∙ ap (λ z. shares z) (sym (same_target log at b.object b.operation from st.loaded))))

  end_done : (z : Passing) → held_by n.body ≡ held_by u → (m : Next) (x : Asked n.body asks (Answers.Done m) z) (values : List ℤ) (exit : Exit) → asks ≡ Complete values exit → ExplainedEnd (limits_in n.body.about) n.body.actor x.at values exit
  end_done z same m x values exit e =
      subst (λ (z : (Limits × ℕ) × (List ℤ × Exit)). ExplainedEnd z.0.0 z.0.1 x.at z.1.0 z.1.1)
      (λ i. ((sym limits_are i, sym actor_is i), ((given_is x.at (later_at x.at x.from) ∙ ap (λ (q : Request). scalars_in q) e) i, ap (λ (q : Request). exit_in q) e i)))
      (own_ends u n.body z n.trace log st.early st.opening b.object b.operation arguments scalars left n.ended.exit asks m (ran_so same) x (st.starts x.at (later_at x.at x.from)))

  new_end : (z : Passing) → held_by n.body ≡ held_by u → (d : Answer) (x : Asked n.body asks d z) (values : List ℤ) (exit : Exit) (next : Next) → asks ≡ Complete values exit → d ≡ Answers.Done next → ExplainedEnd (limits_in n.body.about) n.body.actor x.at values exit
  new_end z same (Answers.Done m) x values exit next e f = end_done z same m x values exit e
  new_end z same d x values exit next e f = absurd (cc f)

  ended_explained : (same : Bool) → eqb (held_by n.body) (held_by u) ≡ same → EndsIf same n.body asks n.ended.exit reached w → EndsExplained w
  ended_explained true is e =
      ⊎_elim (λ wore. vain_explained n.body w asks wore.0.0 n.owned owned body_explained)
      (λ t. settles_explained t.1 w t.0 t.5 t.2.owns owned (asked_explained n.body t.1 asks t.0 t.2 n.owned body_explained (new_end t.1 (eqb-true (held_by n.body) (held_by u) is) t.0 t.2))) e
  ended_explained false is e = subst (λ (z : Passing). EndsExplained z) (sym e.0) body_explained

  pub ran_explained : EndsExplained w
  ran_explained = ended_explained (eqb (held_by n.body) (held_by u)) refl n.end_is

-- a body ran, of which the bodies weren't refused
pub ran_lent : (u w : Passing) (log : List Event) (m : Bool) (b : Begun) (scalars arguments : List ℤ) (reached : Reached) → Start u log b arguments scalars → Owns u → Owns w → Ran log u m b scalars arguments reached w false → EndsExplained u → EndsExplained w
ran_lent u w log m b scalars arguments reached st owns owned t old = by_bodies t.0 t.1 t.2 t.3 where
  by_bodies : (bodies : Option UnitBodies) → IsLent log bodies → false ≡ marked m bodies → RanOn bodies u b scalars arguments reached w → EndsExplained w
  by_bodies None lent mark n = absurd (cc mark)
  by_bodies (Some bodies) lent mark n = ran_explained u w log bodies b scalars arguments reached st owns owned lent n old

-- Starts

first_opening : (v u : Passing) (q : Request) (r : Answer) (x : Asked v q r u) → Owns v → is_some (recorded r) ≡ true → AreRecorded (asked_so_far v ++ (q, r) ∷ [])
first_opening v u q r x owns is = recorded_both (asked_so_far v) ((q, r) ∷ []) (all_recorded v u q r x owns) (is, tt)

-- a call that was answered Started
call_start : (v u : Passing) (o p : ℕ) (vs s : List ℤ) (x : Asked v (Call o p vs) (Answers.Started s) u) → Owns v → Start u x.at (called (catalogue_of x.at) v.actor (Call o p vs)) vs s
call_start v u o p vs s x owns =
    let loaded : on_protected (target (catalogue_of x.at) o p) ≡ true = call_begins (history_at (limits_in v.about) x.at) v.actor o p vs (Answers.Started s) x.due_is refl in
    record {
      early = asked_so_far v;
      opening = (Call o p vs, Answers.Started s) ∷ [];
      asked = asked_more v u (Call o p vs) (Answers.Started s) x owns refl refl;
      recorded = first_opening v u (Call o p vs) (Answers.Started s) x owns refl;
      from = asked_grown v u (Call o p vs) (Answers.Started s) x;
      loaded = loaded;
      shared = refl;
      starts = λ at w. inl refl;
    }

-- a line that fired
fire_start : (v u : Passing) (s : List ℤ) (x : Asked v Fire (Answers.Started s) u) → Owns v → Start u x.at (called (catalogue_of x.at) v.actor Fire) [] s
fire_start v u s x owns =
    let f = fire_begins (history_at (limits_in v.about) x.at) v.actor (Answers.Started s) x.due_is refl in
    subst (λ (z : Begun). Start u x.at z [] s) (sym (ap (λ (n : Option OperationNumber). begun_by_handler (catalogue_of x.at) n) f.handles)) (record {
      early = asked_so_far v;
      opening = (Fire, Answers.Started s) ∷ [];
      asked = asked_more v u Fire (Answers.Started s) x owns refl refl;
      recorded = first_opening v u Fire (Answers.Started s) x owns refl;
      from = asked_grown v u Fire (Answers.Started s) x;
      loaded = f.loaded;
      shared = refl;
      starts = λ at w. inr (inr (refl, handles_at f.number at w f.handles, refl));
    })
  where
    handles_at : (n : OperationNumber) (at : List Event) → StartsWith at x.at → handler (catalogue_of x.at) (v.actor - 1) ≡ Some n → Handles (catalogue_of at) u.actor n.object n.operation
    handles_at n at w h =
        ap (λ (k : ℕ). handler (catalogue_of at) (k - 1)) (ap (λ (z : Passing). z.actor) x.same)
        ∙ (ap (λ (l : List Event). handler (catalogue_of l) (v.actor - 1)) w.1
        ∙ (ap (λ (ss : List Shape). handler ss (v.actor - 1)) (catalogue-append x.at w.0) ∙ handler_later (catalogue_of x.at) (catalogue_of w.0) (v.actor - 1) n h))

-- a queued call that was handed the object
queue_start : (v u k : Passing) (o p : ℕ) (vs s : List ℤ) (x : Asked v (Call o p vs) Answers.Queued u) (y : Asked u Resume (Answers.Woken (Some s)) k) → Owns v → Start k y.at (waited_for (Call o p vs)) vs s
queue_start v u k o p vs s x y owns =
    let first : on_protected (target (catalogue_of x.at) o p) ≡ true = call_begins (history_at (limits_in v.about) x.at) v.actor o p vs Answers.Queued x.due_is refl in
    let later : StartsWith y.at x.at = starts_both x.at u.seen y.at (asked_grown v u (Call o p vs) Answers.Queued x) y.from in
    let same : target (catalogue_of y.at) o p ≡ target (catalogue_of x.at) o p = same_target x.at y.at o p later first in
    let two : (asked_so_far v ++ (Call o p vs, Answers.Queued) ∷ []) ++ (Resume, Answers.Woken (Some s)) ∷ [] ≡ asked_so_far v ++ (Call o p vs, Answers.Queued) ∷ (Resume, Answers.Woken (Some s)) ∷ [] =
    append_assoc (asked_so_far v) ((Call o p vs, Answers.Queued) ∷ []) ((Resume, Answers.Woken (Some s)) ∷ []) in
    record {
      early = asked_so_far v;
      opening = (Call o p vs, Answers.Queued) ∷ (Resume, Answers.Woken (Some s)) ∷ [];
      asked = asked_more u k Resume (Answers.Woken (Some s)) y x.owns refl refl ∙ (ap (λ (t : Trace). t ++ (Resume, Answers.Woken (Some s)) ∷ []) (asked_more v u (Call o p vs) Answers.Queued x owns refl refl) ∙ two);
      recorded = subst (λ (t : Trace). AreRecorded t) two (recorded_both (asked_so_far v ++ (Call o p vs, Answers.Queued) ∷ []) ((Resume, Answers.Woken (Some s)) ∷ []) (first_opening v u (Call o p vs) Answers.Queued x owns refl) (refl, tt));
      from = asked_grown u k Resume (Answers.Woken (Some s)) y;
      loaded = ap (λ z. on_protected z) same ∙ first;
      shared = sym (ap (λ z. shares z) same ∙ queue_shares (history_at (limits_in v.about) x.at) v.actor o p vs Answers.Queued x.due_is refl);
      starts = λ at w. inr (inl refl);
    }

-- Performances

no_end : (q : Request) → Performs q → (values : List ℤ) (exit : Exit) → q ≡ Complete values exit → ⊥
no_end (Call o p vs) t values exit e = cc e
no_end (DelayUntil time) t values exit e = cc e
no_end Clock t values exit e = cc e
no_end Fire t values exit e = cc e
no_end q t values exit e = absurd t

resume_explained : (u k : Passing) (r : Answer) → Asked u Resume r k → Owns u → EndsExplained u → EndsExplained k
resume_explained u k r y owns old = asked_explained u k Resume r y owns old (λ values exit next e f. absurd (cc e))

-- behind a resume that handed no object over nothing follows
still : (u k w : Passing) → w ≡ k → EndsExplained k → EndsExplained w
still u k w e old = subst (λ (z : Passing). EndsExplained z) (sym e) old

waited_explained : (u w : Passing) (m : Bool) (q : Request) (reached : Reached) → Waited u m q reached w false → Owns u → Owns w → EndsExplained u
    → ((k : Passing) (s : List ℤ) (y : Asked u Resume (Answers.Woken (Some s)) k) → EndsExplained k → Ran y.at k m (waited_for q) s (arguments_of q) reached w false → EndsExplained w) → EndsExplained w
waited_explained u w m q reached t owns owned old f =
    ⊎_elim (λ wore. vain_explained u w Resume wore.0.0.0 owns owned old)
    (λ x. woken_or x.0 x.1 x.2 (resume_explained u x.1 x.0 x.2 owns old) x.4) t
  where
    woken_or : (r : Answer) (k : Passing) (y : Asked u Resume r k) → EndsExplained k → Resumed r y.at k m q reached w false → EndsExplained w
    woken_or (Answers.Woken (Some s)) k y now e = f k s y now e
    woken_or r k y now e = still u k w e.0 now

-- a pause hands nothing over
pause_explained : (v u w : Passing) (m : Bool) (q : Request) (wait : Recorded) (reached : Reached) → Waits v q wait u → IsPause q wait → Waited u m q reached w false → Owns u → Owns w → EndsExplained u → EndsExplained w
pause_explained v u w m q wait reached a pause t owns owned old =
    waited_explained u w m q reached t owns owned old
    (λ k s y now ran. pause_unnamed (history_at (limits_in u.about) y.at) u.actor (Answers.Woken (Some s)) (pause_at v u k q wait (Answers.Woken (Some s)) a pause y) (sym y.due_is) refl)

started_explained : (v u w : Passing) (m : Bool) (q : Request) (s : List ℤ) (reached : Reached) (x : Asked v q (Answers.Started s) u) → Performs q → Owns v → Owns w → EndsExplained u → Ran x.at u m (called (catalogue_of x.at) v.actor q) s (arguments_of q) reached w false → EndsExplained w
started_explained v u w m (Call o p vs) s reached x t owns owned old ran = ran_lent u w x.at m (called (catalogue_of x.at) v.actor (Call o p vs)) s vs reached (call_start v u o p vs s x owns) x.owns owned ran old
started_explained v u w m Fire s reached x t owns owned old ran = ran_lent u w x.at m (called (catalogue_of x.at) v.actor Fire) s [] reached (fire_start v u s x owns) x.owns owned ran old
started_explained v u w m (DelayUntil time) s reached x t owns owned old ran = unlike (begins (out (history_at (limits_in v.about) x.at) v.actor (DelayUntil time))) (ap (λ (z : Answer). begins z) (sym x.due_is)) (delay_begins_not (history_at (limits_in v.about) x.at) v.actor time)
started_explained v u w m Clock s reached x t owns owned old ran = unlike (begins (out (history_at (limits_in v.about) x.at) v.actor Clock)) (ap (λ (z : Answer). begins z) (sym x.due_is)) (clock_begins_not (history_at (limits_in v.about) x.at) v.actor)
started_explained v u w m q s reached x t owns owned old ran = absurd t

-- a call that waits in a queue
queued_explained : (v u w : Passing) (m : Bool) (q : Request) (reached : Reached) (x : Asked v q Answers.Queued u) → calls q ≡ true → Owns v → Owns w → EndsExplained u → Waited u m q reached w false → EndsExplained w
queued_explained v u w m (Call o p vs) reached x c owns owned old t =
    waited_explained u w m (Call o p vs) reached t x.owns owned old
    (λ k s y now ran. ran_lent k w y.at m (waited_for (Call o p vs)) s vs reached (queue_start v u k o p vs s x y owns) y.owns owned ran now)
queued_explained v u w m q reached x c owns owned old t = absurd (cc c)

followed_explained : (v u w : Passing) (m : Bool) (q : Request) (r : Answer) (reached : Reached) (x : Asked v q r u) → Performs q → of_first q r ≡ true → Owns v → Owns w → EndsExplained u
    → Followed r x.at (called (catalogue_of x.at) v.actor q) u m q reached w false → EndsExplained w
followed_explained v u w m q (Answers.Started s) reached x t g owns owned old f = started_explained v u w m q s reached x t owns owned old f
followed_explained v u w m q Answers.Queued reached x t g owns owned old f = queued_explained v u w m q reached x g owns owned old f
followed_explained v u w m q Answers.Suspended reached x t g owns owned old f =
    pause_explained v u w m q Words.Suspended reached (record { answer = Answers.Suspended; asked = x; on = refl; seen_is = x.seen_is; own_is = x.own_is; actor_is = asked_actor v u q _ x }) (suspends q g) f x.owns owned old
followed_explained v u w m q Answers.Delayed reached x t g owns owned old f =
    pause_explained v u w m q Words.Delayed reached (record { answer = Answers.Delayed; asked = x; on = refl; seen_is = x.seen_is; own_is = x.own_is; actor_is = asked_actor v u q _ x }) (delayed q g) f x.owns owned old
followed_explained v u w m q r reached x t g owns owned old f = still v u w f.0 old

first_due : (v u : Passing) (q : Request) (r : Answer) (x : Asked v q r u) → HasHandler (catalogue_of v.seen) v.actor → Performs q → of_first q r ≡ true
first_due v u q r x has t = ap (λ (z : Answer). of_first q z) x.due_is ∙ first_gets (history_at (limits_in v.about) x.at) v.actor q (handler_at v.seen x.at v.actor x.from has) t

-- What was explained stays so when a port performs a request, if no bodies were refused to it.
performances_explain :
    (v w : Passing) (mark : Bool) (q : Request) (reached : Reached)
    → Performs q → HasHandler (catalogue_of v.seen) v.actor → Owns v → Owns w
    → Performed v mark q reached w false → EndsExplained v → EndsExplained w
performances_explain v w m q reached performs has owns owned t old =
    ⊎_elim (λ wore. vain_explained v w q wore.0.0.0 owns owned old)
    (λ x. followed_explained v x.1 w m q x.0 reached x.2 performs (first_due v x.1 q x.0 x.2 has performs) owns owned
    (asked_explained v x.1 q x.0 x.2 owns old (λ values exit next e f. absurd (no_end q performs values exit e))) x.4) t

-- The mark stays, once it is there

ran_unmarked : (u w : Passing) (log : List Event) (m : Bool) (b : Begun) (scalars arguments : List ℤ) (reached : Reached) → Ran log u m b scalars arguments reached w false → m ≡ false
ran_unmarked u w log m b scalars arguments reached t = by_bodies t.0 t.2 where
  by_bodies : (bodies : Option UnitBodies) → false ≡ marked m bodies → m ≡ false
  by_bodies None e = absurd (cc e)
  by_bodies (Some bodies) e = sym e

resumed_unmarked : (r : Answer) (log : List Event) (u w : Passing) (m : Bool) (q : Request) (reached : Reached) → Resumed r log u m q reached w false → m ≡ false
resumed_unmarked (Answers.Woken (Some s)) log u w m q reached t = ran_unmarked u w log m (waited_for q) s (arguments_of q) reached t
resumed_unmarked r log u w m q reached t = sym t.1

waited_unmarked : (u w : Passing) (m : Bool) (q : Request) (reached : Reached) → Waited u m q reached w false → m ≡ false
waited_unmarked u w m q reached t = ⊎_elim (λ x. sym x.1) (λ x. resumed_unmarked x.0 x.2.at x.1 w m q reached x.4) t

followed_unmarked : (r : Answer) (log : List Event) (b : Begun) (u w : Passing) (m : Bool) (q : Request) (reached : Reached) → Followed r log b u m q reached w false → m ≡ false
followed_unmarked (Answers.Started s) log b u w m q reached t = ran_unmarked u w log m b s (arguments_of q) reached t
followed_unmarked Answers.Queued log b u w m q reached t = waited_unmarked u w m q reached t
followed_unmarked Answers.Suspended log b u w m q reached t = waited_unmarked u w m q reached t
followed_unmarked Answers.Delayed log b u w m q reached t = waited_unmarked u w m q reached t
followed_unmarked r log b u w m q reached t = sym t.1

unmarked : (v w : Passing) (m : Bool) (q : Request) (reached : Reached) → Performed v m q reached w false → m ≡ false
unmarked v w m q reached t = ⊎_elim (λ x. sym x.1) (λ x. followed_unmarked x.0 x.2.at (called (catalogue_of x.2.at) v.actor q) x.1 w m q reached x.4) t

-- one performance
pub performed_explained : (v w : Passing) (m after : Bool) (q : Request) (reached : Reached) → Performs q → HasHandler (catalogue_of v.seen) v.actor → Owns v → Owns w
    → Performed v m q reached w after → ExplainedUnless m v → ExplainedUnless after w
performed_explained v w m after q reached performs has owns owned t old is =
    let done : Performed v m q reached w false = subst (λ (b : Bool). Performed v m q reached w b) is t in
    performances_explain v w m q reached performs has owns owned done (old (unmarked v w m q reached done))
