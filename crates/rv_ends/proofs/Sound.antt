-- What a trace that was played tells: where every ask was the one recorded, it follows what was recorded; and where one wasn't,
-- it does up to that one.
use Rattle.std.proofs.Common.{◌≡◌, ◌⊎◌, inl, inr, [], ◌∷◌, ◌++◌, true, false, Option, Some, None, refl, sym, ap, ◌∙◌, subst, append-nil}
use Rattle.std.specs.Prelude.{unwrap_or}
use Rattle.rv_event.specs.declared.entry.Answer.{Answer}
use Rattle.rv_event.specs.declared.entry.Answer.TheVariants.{Full}
use Rattle.rv_event.specs.declared.entry.Request.{Request}
use Rattle.rv_exec.specs.Asking.{Trace, stands}
use Rattle.rv_ends.specs.Explained.{AreStoppedEnds, Follows, FollowsToStop, NoneStands, held_behind, is_stopped_end, is_unasked}
use Rattle.rv_ends.specs.Following.{Goes, Place, Plays, gone_on, may_follow, missed, missed_by}

some_is_none : {A X : Type 0} (a : A) → Some a ≡ None → X
some_is_none a e = absurd cc

pub true_is_false : {X : Type 0} → true ≡ false → X
true_is_false e = absurd cc

-- What an ask leaves, recorded or missed, stays.

stays : (P : Place → Type 0) → ((p : Place) (rest : Trace) (answer : Answer) → P p → P (gone_on p rest answer)) → ((p : Place) (r : Request) → P p → P (missed p r)) → (p q : Place) (trace : Trace) → P p → Plays p trace q → P q
stays P on past p q [] is h = subst P h is
stays P on past p q (pair ∷ trace) is h = stays P on past h.0 q trace (by_case h.1) h.2
  where
    by_case : Goes p pair h.0 → P h.0
    by_case (inl g) = subst P (sym g.3) is
    by_case (inr (inl g)) = subst P (sym g.4) (on p g.2 pair.1 is)
    by_case (inr (inr g)) = subst P (sym g.3) (past p pair.0 is)

-- So the first other ask does,

missed_other : (o : Option Request) (x : Request) (p : Place) (r : Request) → p.other ≡ o → o ≡ Some x → (missed_by o p r).other ≡ Some x
missed_other None x p r is e = some_is_none x (sym e)
missed_other (Some y) x p r is e = is ∙ e

stays_other : (p q : Place) (trace : Trace) (x : Request) → p.other ≡ Some x → Plays p trace q → q.other ≡ Some x
stays_other p q trace x is h = stays (λ (m : Place). m.other ≡ Some x) (λ m rest answer e. e) (λ m r e. missed_other m.other x m r refl e) p q trace is h

-- and something else behind it.

missed_broken : (o : Option Request) (p : Place) (r : Request) → p.is_broken ≡ true → (missed_by o p r).is_broken ≡ true
missed_broken None p r is = is
missed_broken (Some y) p r is = refl

stays_broken : (p q : Place) (trace : Trace) → p.is_broken ≡ true → Plays p trace q → q.is_broken ≡ true
stays_broken p q trace is h = stays (λ (m : Place). m.is_broken ≡ true) (λ m rest answer e. e) (λ m r e. missed_broken m.other m r e) p q trace is h

-- Behind a miss there is another ask, so without one nothing was missed.

missed_some : (o : Option Request) (p : Place) (r : Request) → p.other ≡ o → (x : Request) × ((missed_by o p r).other ≡ Some x)
missed_some None p r is = (r, refl)
missed_some (Some y) p r is = (y, is)

-- Where no ask was another, the trace follows what was recorded up to what is left,

pub record FollowsFront (p : Place) (trace left : Trace) : Type 0 where
  pub front : Trace
  pub recorded_is : p.asked ≡ front ++ left
  pub follows : Follows p.shapes p.held front trace

pub follows_front : (p q : Place) (trace : Trace) → Plays p trace q → q.other ≡ None → FollowsFront p trace q.asked
follows_front p q [] h none = record { front = []; recorded_is = ap (λ (r : Place). r.asked) h; follows = refl }
follows_front p q (pair ∷ trace) h none = by_case (follows_front h.0 q trace h.2 none) h.1
  where
    m_none : (o : Option Request) → h.0.other ≡ o → o ≡ None
    m_none None is = refl
    m_none (Some x) is = some_is_none x (sym (stays_other h.0 q trace x is h.2) ∙ none)

    by_case : FollowsFront h.0 trace q.asked → Goes p pair h.0 → FollowsFront p (pair ∷ trace) q.asked
    by_case rest (inl g) =
        let s = subst (λ (r : Place). FollowsFront r trace q.asked) g.3 rest in
        record { front = s.front; recorded_is = s.recorded_is; follows = inl (g.1, g.2, s.follows) }
    by_case rest (inr (inl g)) =
        let p_none : p.other ≡ None = sym (ap (λ (r : Place). r.other) g.4) ∙ m_none h.0.other refl in
        let s = subst (λ (r : Place). FollowsFront r trace q.asked) g.4 rest in
        record {
          front = pair ∷ s.front;
          recorded_is = g.3 ∙ ap (λ (l : Trace). pair ∷ l) s.recorded_is;
          follows = inr (g.0 p_none, s.front, refl, s.follows);
        }
    by_case rest (inr (inr g)) =
        let x = missed_some p.other p pair.0 refl in
        some_is_none x.0 (sym (ap (λ (r : Place). r.other) g.3 ∙ x.1) ∙ m_none h.0.other refl)

-- and where nothing is left, all of it.

pub by_recorded : (p q : Place) (trace : Trace) → Plays p trace q → q.other ≡ None → q.asked ≡ [] → Follows p.shapes p.held p.asked trace
by_recorded p q trace h none empty =
    let s = follows_front p q trace h none in
    subst (λ (l : Trace). Follows p.shapes p.held l trace) (sym (s.recorded_is ∙ ap (λ (l : Trace). s.front ++ l) empty ∙ append-nil s.front)) s.follows

-- Where one ask was another, the trace follows what was recorded up to it.

pub record ComesToOther (p q : Place) (trace : Trace) (other : Request) : Type 0 where
  pub front : Trace
  pub left : Trace
  pub before : Trace
  pub behind : Trace
  pub recorded_is : p.asked ≡ front ++ left
  pub trace_is : trace ≡ before ++ (other, Full) ∷ behind
  pub follows : Follows p.shapes p.held front before
  pub is_other : (answer : Answer) (rest : Trace) → left ≡ (other, answer) ∷ rest → stands answer ≡ true
  pub is_asked : is_unasked p.shapes (held_behind p.held front) other ≡ false
  -- the place behind it, and what is played from there
  pub at : Place
  pub at_left : at.asked ≡ left
  pub at_whole : at.is_broken ≡ p.is_broken
  pub at_other : at.other ≡ Some other
  pub plays : Plays at behind q

first_missed : (o : Option Request) (p : Place) (r : Request) → p.other ≡ o → o ≡ None →
    ((missed_by o p r).other ≡ Some r) × ((missed_by o p r).asked ≡ p.asked) × ((missed_by o p r).is_broken ≡ p.is_broken)
first_missed None p r is e = (refl, refl, refl)
first_missed (Some y) p r is e = some_is_none y e

same_some : (a b : Request) → Some a ≡ Some b → a ≡ b
same_some a b e = ap (λ (o : Option Request). unwrap_or o a) e

pair_is : (y : Request × Answer) (b : Request) → y.0 ≡ b → y.1 ≡ Full → y ≡ (b, Full)
pair_is y b e f = λ i. (e i, f i)

not_false : (o : Option Request) (r : Request) → o ≡ None → may_follow o r ≡ false → ⊥
not_false None r e f = true_is_false f
not_false (Some y) r e f = some_is_none y e

-- so it does with one ask more before it
comes_on : (p m q : Place) (pair : Request × Answer) (trace : Trace) (x : Request) (s : ComesToOther m q trace x) (front : Trace) → m.is_broken ≡ p.is_broken → p.asked ≡ front ++ s.left → Follows p.shapes p.held front (pair ∷ s.before) → is_unasked p.shapes (held_behind p.held front) x ≡ false → ComesToOther p q (pair ∷ trace) x
comes_on p m q pair trace x s front whole is follows asked = record {
  front = front;
  left = s.left;
  before = pair ∷ s.before;
  behind = s.behind;
  recorded_is = is;
  trace_is = ap (λ (l : Trace). pair ∷ l) s.trace_is;
  follows = follows;
  is_other = s.is_other;
  is_asked = asked;
  at = s.at;
  at_left = s.at_left;
  at_whole = s.at_whole ∙ whole;
  at_other = s.at_other;
  plays = s.plays;
}

pub comes_to_other : (p q : Place) (trace : Trace) (x : Request) → p.other ≡ None → Plays p trace q → q.other ≡ Some x → ComesToOther p q trace x
comes_to_other p q [] x none h other = some_is_none x (sym other ∙ sym (ap (λ (r : Place). r.other) h) ∙ none)
comes_to_other p q (pair ∷ trace) x none h other = by_case (λ m_none. comes_to_other h.0 q trace x m_none h.2 other) h.1
  where
    by_case : (h.0.other ≡ None → ComesToOther h.0 q trace x) → Goes p pair h.0 → ComesToOther p q (pair ∷ trace) x
    by_case later (inl g) =
        let s = subst (λ (r : Place). ComesToOther r q trace x) g.3 (later (ap (λ (r : Place). r.other) g.3 ∙ none)) in
        comes_on p p q pair trace x s s.front refl s.recorded_is (inl (g.1, g.2, s.follows)) s.is_asked
    by_case later (inr (inl g)) =
        let s = subst (λ (r : Place). ComesToOther r q trace x) g.4 (later (ap (λ (r : Place). r.other) g.4 ∙ none)) in
        comes_on p (gone_on p g.2 pair.1) q pair trace x s (pair ∷ s.front) refl (g.3 ∙ ap (λ (l : Trace). pair ∷ l) s.recorded_is) (inr (g.0 none, s.front, refl, s.follows)) s.is_asked
    by_case later (inr (inr g)) =
        let first = first_missed p.other p pair.0 refl none in
        let m_other : h.0.other ≡ Some pair.0 = ap (λ (r : Place). r.other) g.3 ∙ first.0 in
        let same : pair.0 ≡ x = same_some pair.0 x (sym (stays_other h.0 q trace pair.0 m_other h.2) ∙ other) in
        record {
          front = [];
          left = p.asked;
          before = [];
          behind = trace;
          recorded_is = refl;
          trace_is = ap (λ (y : Request × Answer). y ∷ trace) (pair_is pair x same g.0);
          follows = refl;
          is_other = λ answer rest at. stands_only answer (g.2 answer rest (at ∙ ap (λ (r : Request). (r, answer) ∷ rest) (sym same)));
          is_asked = subst (λ (r : Request). is_unasked p.shapes p.held r ≡ false) same (g.1 none);
          at = h.0;
          at_left = ap (λ (r : Place). r.asked) g.3 ∙ first.1;
          at_whole = ap (λ (r : Place). r.is_broken) g.3 ∙ first.2;
          at_other = m_other ∙ ap (λ (r : Request). Some r) same;
          plays = h.2;
        }
      where
        stands_only : (answer : Answer) → (stands answer ≡ true) ⊎ (may_follow p.other pair.0 ≡ false) → stands answer ≡ true
        stands_only answer (inl is) = is
        stands_only answer (inr is) = absurd (not_false p.other pair.0 none is)

-- Behind another ask what is played is what was recorded: ends by stopped.

missed_again : (o : Option Request) (x : Request) (p : Place) (r : Request) → o ≡ Some x → (missed_by o p r).is_broken ≡ true
missed_again None x p r e = some_is_none x (sym e)
missed_again (Some y) x p r e = refl

follows_some : (o : Option Request) (x r : Request) → o ≡ Some x → may_follow o r ≡ true → is_stopped_end r ≡ true
follows_some None x r e f = some_is_none x (sym e)
follows_some (Some y) x r e f = f

unwound : (p q : Place) (trace : Trace) (x : Request) → p.other ≡ Some x → Plays p trace q → q.is_broken ≡ false → q.asked ≡ [] → (p.asked ≡ trace) × AreStoppedEnds trace
unwound p q [] x is h whole empty = (ap (λ (r : Place). r.asked) h ∙ empty, tt)
unwound p q (pair ∷ trace) x is h whole empty = by_case (unwound h.0 q trace x (stays_other p h.0 (pair ∷ []) x is (h.0, h.1, refl)) h.2 whole empty) h.1
  where
    by_case : (h.0.asked ≡ trace) × AreStoppedEnds trace → Goes p pair h.0 → (p.asked ≡ pair ∷ trace) × AreStoppedEnds (pair ∷ trace)
    by_case rest (inl g) = some_is_none x (sym is ∙ g.0)
    by_case rest (inr (inl g)) =
        let tail : g.2 ≡ trace = sym (ap (λ (r : Place). r.asked) g.4) ∙ rest.0 in
        (g.3 ∙ ap (λ (l : Trace). pair ∷ l) tail, (follows_some p.other x pair.0 is g.1, rest.1))
    by_case rest (inr (inr g)) =
        let broken : h.0.is_broken ≡ true = ap (λ (r : Place). r.is_broken) g.3 ∙ missed_again p.other x p pair.0 is in
        true_is_false (sym (stays_broken h.0 q trace broken h.2) ∙ whole)

-- Where one ask was another, and behind it came ends by stopped alone, they are what else was recorded.

pub by_stop : (p q : Place) (trace : Trace) (x : Request) → p.other ≡ None → Plays p trace q → q.other ≡ Some x → q.is_broken ≡ false → q.asked ≡ []
    → FollowsToStop p.shapes p.held p.asked x trace
by_stop p q trace x none h other whole empty =
    let s = comes_to_other p q trace x none h other in
    let ends = unwound s.at q s.behind x s.at_other s.plays whole empty in
    record {
      before = s.before;
      done = s.front;
      ends = s.behind;
      recorded_is = s.recorded_is ∙ ap (λ (l : Trace). s.front ++ l) (sym s.at_left ∙ ends.0);
      trace_is = s.trace_is;
      follows = s.follows;
      stopped = ends.1;
    }

-- And where what is left is what the text goes on with, ends by stopped, nothing else comes.

tail_is : (c d : Request × Answer) (xs ys : Trace) → c ∷ xs ≡ d ∷ ys → xs ≡ ys
tail_is c d xs ys e = cc e

pub winds_up : (p q : Place) (trace : Trace) (x : Request) → p.other ≡ Some x → Plays p trace q → p.asked ≡ trace → AreStoppedEnds trace → NoneStands trace → (q.is_broken ≡ p.is_broken) × (q.asked ≡ [])
winds_up p q [] x is h asked ends settled = (ap (λ (r : Place). r.is_broken) (sym h), ap (λ (r : Place). r.asked) (sym h) ∙ asked)
winds_up p q (pair ∷ trace) x is h asked ends settled = by_case (λ at. winds_up h.0 q trace x (stays_other p h.0 (pair ∷ []) x is (h.0, h.1, refl)) h.2 at ends.1 settled.1) h.1
  where
    may : (o : Option Request) → o ≡ Some x → may_follow o pair.0 ≡ is_stopped_end pair.0
    may None e = some_is_none x (sym e)
    may (Some y) e = refl

    not_other : (stands pair.1 ≡ true) ⊎ (may_follow p.other pair.0 ≡ false) → ⊥
    not_other (inl is_standing) = true_is_false (sym is_standing ∙ settled.0)
    not_other (inr may_not) = true_is_false (sym ends.0 ∙ sym (may p.other is) ∙ may_not)

    by_case : (h.0.asked ≡ trace → (q.is_broken ≡ h.0.is_broken) × (q.asked ≡ [])) → Goes p pair h.0 → (q.is_broken ≡ p.is_broken) × (q.asked ≡ [])
    by_case later (inl g) = some_is_none x (sym is ∙ g.0)
    by_case later (inr (inl g)) =
        let there = later (ap (λ (r : Place). r.asked) g.4 ∙ tail_is pair pair g.2 trace (sym g.3 ∙ asked)) in
        (there.0 ∙ ap (λ (r : Place). r.is_broken) g.4, there.1)
    by_case later (inr (inr g)) = absurd (not_other (g.2 pair.1 trace asked))
