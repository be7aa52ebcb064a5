-- What a call did, from its parts.
use Rattle.std.proofs.Common.{◌≡◌, ℕ, ◌+◌, ◌≤◌, Bool, true, false, List, [], ◌++◌, length, Option, Some, None, refl, sym, ap, ◌∙◌, subst, inr, ⊎_elim, append_assoc, append-nil, arith}
use Rattle.std.specs.Prelude.{ℤ, nat_lt, ◌==◌, IfSome}
use Rattle.rv_event.specs.declared.entry.Request.{Request}
use Rattle.rv_event.specs.declared.entry.Request.TheVariants.{Complete, Resume, Quit}
use Rattle.rv_event.specs.declared.entry.Answer.{Answer}
use Rattle.rv_event.specs.declared.entry.Answer.TheVariants as Answers
use Rattle.rv_behind.specs.declared.event.Event.{Event}
use Rattle.rv_port.specs.declared.reached.Reached.{Reached}
use Rattle.rv_behind.specs.Events.{catalogue_of, called}
use Rattle.rv_port.specs.Traces.{Passing, Trace, InVain, Went, Asked, Replied, RepliedOnce, SettlesBehind, asks_on}
use Rattle.rv_behind.specs.Acting.{begun_by, IsLent, lent_view}
use Rattle.rv_code.specs.Bodies.{UnitBodies}
use Rattle.rv_behind.specs.declared.event.Lent.{Lent}
use Rattle.rv_port.specs.Reaching.{arguments_of, reads, plain_of, start_of, waits_on, waited_for}
use Rattle.rv_port.proofs.Asking.{in_vain_later, asked_later}
use Rattle.rv_port.proofs.Settles.{settles_to}
use Rattle.rv_event.specs.declared.entry.Exit.{Exit}
use Rattle.rv_port.specs.Bodies.{RunsTo, RanTo, IsHad, marked}
use Rattle.rv_port.specs.Held.{held_by, Owns}
use Rattle.rv_port.specs.Calls.{EndsIf, RanBehind, RanOn, Resumed, Waited, Followed, Performed, QuitBy, Quits, Grown, Stays}
use Rattle.rv_turn.specs.Histories.{StartsWith}
use Rattle.rv_turn.specs.Prefixes.{starts_self, starts_both}
use Rattle.rv_behind.specs.declared.event.Begun.{Begun}

pub plainly : (r : Answer) (log : List Event) (b : Begun) (u : Passing) (m f : Bool) (q : Request) (reached : Reached) → f ≡ m → ((s : List ℤ) → r ≡ Answers.Started s → ⊥) → waits_on r ≡ false → reached ≡ plain_of (reads q) r → Followed r log b u m q reached u f
plainly (Answers.Started s) log b u m f q reached k never e p = absurd (never s refl)
plainly Answers.Queued log b u m f q reached k never e p = absurd (cc e)
plainly Answers.Suspended log b u m f q reached k never e p = absurd (cc e)
plainly Answers.Delayed log b u m f q reached k never e p = absurd (cc e)
plainly r log b u m f q reached k never e p = (refl, k, p)

wait_followed : (r : Answer) (log : List Event) (b : Begun) (u w : Passing) (m f : Bool) (q : Request) (reached : Reached) → waits_on r ≡ true → Waited u m q reached w f → Followed r log b u m q reached w f
wait_followed Answers.Queued log b u w m f q reached e t = t
wait_followed Answers.Suspended log b u w m f q reached e t = t
wait_followed Answers.Delayed log b u w m f q reached e t = t
wait_followed r log b u w m f q reached e t = absurd (cc e)

-- the request waits
pub waited : (v u w : Passing) (m k f : Bool) (q : Request) (r : Answer) (b : Begun) (lent : Option Lent) (reached : Reached) → Replied v q r b lent u → asks_on r ≡ false → waits_on r ≡ true → k ≡ m → Waited u k q reached w f
    → Performed v m q reached w f
waited v u w m k f q r b lent reached x calm e same t = inr (
  r,
  u,
  x.asked,
  calm,
  wait_followed r x.asked.at (called (catalogue_of x.asked.at) v.actor q) u w m f q reached e (subst (λ (z : Bool). Waited u z q reached w f) same t),
)

-- the answer starts a body
abbrev pub starts : Answer → Bool
starts (Answers.Started s) = true
starts r = false

-- the object was handed over
abbrev pub hands : Answer → Bool
hands (Answers.Woken (Some s)) = true
hands r = false

-- none but `Started` starts a body
pub unstarted : (r : Answer) → ((s : List ℤ) → r ≡ Answers.Started s → ⊥) → starts r ≡ false
unstarted (Answers.Started s) none = absurd (none s refl)
unstarted r none = refl

not_started : (r : Answer) (s : List ℤ) → starts r ≡ false → r ≡ Answers.Started s → ⊥
not_started r s e is = absurd (cc (e, is))

-- nothing started, and nobody waits
pub first_plain : (v u : Passing) (m f : Bool) (q : Request) (r : Answer) (b : Begun) (lent : Option Lent) (reached : Reached) → Replied v q r b lent u → asks_on r ≡ false → f ≡ m → starts r ≡ false → waits_on r ≡ false
    → reached ≡ plain_of (reads q) r → Performed v m q reached u f
first_plain v u m f q r b lent reached x calm k un e p = inr (
  r,
  u,
  x.asked,
  calm,
  plainly r x.asked.at (called (catalogue_of x.asked.at) v.actor q) u m f q reached k (λ s is. not_started r s un is) e p,
)

resumed_plain : (r : Answer) (log : List Event) (u : Passing) (m f : Bool) (q : Request) (reached : Reached) → f ≡ m → hands r ≡ false → reached ≡ plain_of false r → Resumed r log u m q reached u f
resumed_plain (Answers.Woken (Some s)) log u m f q reached k un p = absurd (cc un)
resumed_plain r log u m f q reached k un p = (refl, k, p)

-- a caller that waited wasn't handed the object
pub not_woken : (v u : Passing) (m f : Bool) (q : Request) (r : Answer) (b : Begun) (lent : Option Lent) (reached : Reached) → Replied v Resume r b lent u → asks_on r ≡ false → f ≡ m → hands r ≡ false → reached ≡ plain_of false r
    → Waited v m q reached u f
not_woken v u m f q r b lent reached x calm k un p = inr (r, u, x.asked, calm, resumed_plain r x.asked.at u m f q reached k un p)

-- a body ran, and its end was asked
pub ran_on : (bodies : Option UnitBodies) (u v w : Passing) (begun : Begun) (start : Option (List ℤ)) (scalars arguments : List ℤ) (p q : Request) (exit : Exit) (reached : Reached) (last first : ℕ) → start ≡ Some scalars → arguments ≡ arguments_of p
    → ((trace : Trace) × RunsTo bodies (held_by u) begun scalars arguments trace q exit × Went u trace v) → Owns v → last ≡ held_by v → first ≡ held_by u → EndsIf (last == first) v q exit reached w
    → IfSome start (λ s. RanOn bodies u begun s (arguments_of p) reached w)
ran_on bodies u v w begun start scalars arguments p q exit reached last first is same ran owned e f ends =
    let so : RanOn bodies u begun scalars arguments reached w = record {
      trace = ran.0;
      ended = ran.1.0;
      runs = ran.1.1;
      body = v;
      went = ran.2;
      owned = owned;
      end_is = subst (λ (z : Request × Exit × ℕ × ℕ). EndsIf (z.2 == z.3) v z.0 z.1 reached w) (λ i. (ran.1.2 i, ran.1.3 i, e i, f i)) ends;
    } in
    subst (λ (z : Option (List ℤ) × List ℤ). IfSome z.0 (λ s. RanOn bodies u begun s z.1 reached w)) (λ i. (sym is i, same i)) so

-- a body was started
pub started : (v u w : Passing) (m n : Bool) (q : Request) (r : Answer) (b : Begun) (lent : Option Lent) (scalars : List ℤ) (reached : Reached) → Replied v q r b lent u → asks_on r ≡ false → r ≡ Answers.Started scalars
    → n ≡ marked m (lent_view lent) → IfSome (start_of r) (λ s. RanOn (lent_view lent) u b s (arguments_of q) reached w) → Performed v m q reached w n
started v u w m n q r b lent scalars reached x calm is mark ran =
    let so : RanOn (lent_view lent) u b scalars (arguments_of q) reached w = subst (λ (z : Answer). IfSome (start_of z) (λ s. RanOn (lent_view lent) u b s (arguments_of q) reached w)) is ran in
    let begun : b ≡ called (catalogue_of x.asked.at) v.actor q = x.begun_is ∙ ap (begun_by (catalogue_of x.asked.at) v.actor q) is in
    let follows : Followed (Answers.Started scalars) x.asked.at (called (catalogue_of x.asked.at) v.actor q) u m q reached w n =
    (lent_view lent, x.lent_is, mark, subst (λ (z : Begun). RanOn (lent_view lent) u z scalars (arguments_of q) reached w) begun so) in
    inr (r, u, x.asked, calm, subst (λ (z : Answer). Followed z x.asked.at (called (catalogue_of x.asked.at) v.actor q) u m q reached w n) (sym is) follows)

-- a caller that waited was handed the object over
pub woken : (v u w : Passing) (m n : Bool) (q : Request) (r : Answer) (b : Begun) (lent : Option Lent) (scalars : List ℤ) (begun : Begun) (reached : Reached) → Replied v Resume r b lent u → asks_on r ≡ false
    → r ≡ Answers.Woken (Some scalars) → begun ≡ waited_for q → n ≡ marked m (lent_view lent) → IfSome (start_of r) (λ s. RanOn (lent_view lent) u begun s (arguments_of q) reached w) → Waited v m q reached w n
woken v u w m n q r b lent scalars begun reached x calm is at mark ran =
    let so : RanOn (lent_view lent) u begun scalars (arguments_of q) reached w = subst (λ (z : Answer). IfSome (start_of z) (λ s. RanOn (lent_view lent) u begun s (arguments_of q) reached w)) is ran in
    let resumes : Resumed (Answers.Woken (Some scalars)) x.asked.at u m q reached w n =
    (lent_view lent, x.lent_is, mark, subst (λ (z : Begun). RanOn (lent_view lent) u z scalars (arguments_of q) reached w) at so) in
    inr (r, u, x.asked, calm, subst (λ (z : Answer). Resumed z x.asked.at u m q reached w n) (sym is) resumes)

-- By the bodies that were had

pub had_lent : (log : List Event) (lent had : Option Lent) → IsHad lent had → IsLent log (lent_view lent) → IsLent log (lent_view had)
had_lent log lent had had_is is =
    ⊎_elim (λ e. subst (λ (l : Option Lent). IsLent log (lent_view l)) (sym e) is) (λ e. subst (λ (l : Option Lent). IsLent log (lent_view l)) (sym e) tt) had_is

replied_had : (v u : Passing) (q : Request) (r : Answer) (b : Begun) (lent had : Option Lent) → IsHad lent had → Replied v q r b lent u → Replied v q r b had u
replied_had v u q r b lent had had_is x = record { asked = x.asked; lent_is = had_lent x.asked.at lent had had_is x.lent_is; begun_is = x.begun_is }

on_some : (start : Option (List ℤ)) (P Q : List ℤ → Type 0) → ((s : List ℤ) → P s → Q s) → IfSome start P → IfSome start Q
on_some None P Q f h = tt
on_some (Some s) P Q f h = f s h

pub ran_behind : (lent : Option Lent) (u v w : Passing) (mark middle after : Bool) (begun : Begun) (start : Option (List ℤ)) (scalars arguments : List ℤ) (p q : Request) (exit : Exit) (reached : Reached) (last first : ℕ)
    → start ≡ Some scalars → arguments ≡ arguments_of p → RanTo lent u mark begun scalars arguments q exit v middle → Owns v → last ≡ held_by v → first ≡ held_by u
    → EndsIf (last == first) v q exit reached w → after ≡ middle → IfSome start (λ s. RanBehind lent u mark begun s (arguments_of p) reached w after)
ran_behind lent u v w mark middle after begun start scalars arguments p q exit reached last first is same ran owned e f ends stays =
    on_some start (λ s. RanOn (lent_view ran.had) u begun s (arguments_of p) reached w) (λ s. RanBehind lent u mark begun s (arguments_of p) reached w after)
    (λ s on. (ran.had, ran.had_is, on, stays ∙ ran.marked_is))
    (ran_on (lent_view ran.had) u v w begun start scalars arguments p q exit reached last first is same (ran.trace, ran.runs, ran.went) owned e f ends)

pub started_had : (v u w : Passing) (m k n : Bool) (q : Request) (r : Answer) (b : Begun) (lent : Option Lent) (scalars : List ℤ) (reached : Reached) → Replied v q r b lent u → asks_on r ≡ false → r ≡ Answers.Started scalars
    → k ≡ m → IfSome (start_of r) (λ s. RanBehind lent u k b s (arguments_of q) reached w n) → Performed v m q reached w n
started_had v u w m k n q r b lent scalars reached x calm is same ran =
    let so : RanBehind lent u k b scalars (arguments_of q) reached w n = subst (λ (z : Answer). IfSome (start_of z) (λ s. RanBehind lent u k b s (arguments_of q) reached w n)) is ran in
    started v u w m n q r b so.0 scalars reached (replied_had v u q r b lent so.0 so.1 x) calm is (so.3 ∙ ap (λ (z : Bool). marked z (lent_view so.0)) same)
    (subst (λ (z : Answer). IfSome (start_of z) (λ s. RanOn (lent_view so.0) u b s (arguments_of q) reached w)) (sym is) so.2)

pub woken_had : (v u w : Passing) (m k n : Bool) (q : Request) (r : Answer) (b : Begun) (lent : Option Lent) (scalars : List ℤ) (begun : Begun) (reached : Reached) → Replied v Resume r b lent u → asks_on r ≡ false
    → r ≡ Answers.Woken (Some scalars) → begun ≡ waited_for q → k ≡ m → IfSome (start_of r) (λ s. RanBehind lent u k begun s (arguments_of q) reached w n) → Waited v m q reached w n
woken_had v u w m k n q r b lent scalars begun reached x calm is at same ran =
    let so : RanBehind lent u k begun scalars (arguments_of q) reached w n = subst (λ (z : Answer). IfSome (start_of z) (λ s. RanBehind lent u k begun s (arguments_of q) reached w n)) is ran in
    woken v u w m n q r b so.0 scalars begun reached (replied_had v u Resume r b lent so.0 so.1 x) calm is at (so.3 ∙ ap (λ (z : Bool). marked z (lent_view so.0)) same)
    (subst (λ (z : Answer). IfSome (start_of z) (λ s. RanOn (lent_view so.0) u begun s (arguments_of q) reached w)) (sym is) so.2)

-- Growth of a pass's own events

pub more_after : (v u w : Passing) → Grown v u → Grown u w → Grown v w
more_after v u w f g = (f.0 ++ g.0, g.1 ∙ (ap (λ (l : List Event). l ++ g.0) f.1 ∙ append_assoc v.own f.0 g.0))

pub asked_actor : (v w : Passing) (q : Request) (r : Answer) → Asked v q r w → w.actor ≡ v.actor
asked_actor v w q r x = ap (λ (k : Passing). k.actor) x.same

pub vain_grown : (v w : Passing) (q : Request) → InVain v q w → Grown v w
vain_grown v w q p = ([], ap (λ (k : Passing). k.own) p.same ∙ sym (append-nil v.own))

-- A port stays what it was

pub stays_self : (v : Passing) → Stays v v
stays_self v = record { turn = refl; actor = refl; about = refl; later = starts_self v.seen; grown = ([], sym (append-nil v.own)); fewer = omega arith }

pub stays_both : (v u w : Passing) → Stays v u → Stays u w → Stays v w
stays_both v u w p q = record {
  turn = q.turn ∙ p.turn;
  actor = q.actor ∙ p.actor;
  about = q.about ∙ p.about;
  later = starts_both v.seen u.seen w.seen p.later q.later;
  grown = more_after v u w p.grown q.grown;
  fewer = let one = p.fewer in let two = q.fewer in omega (arith, one, two);
}

-- a port of the same turn and actor that has forgotten nothing, and gained no act
pub stays_by : (v w : Passing) (own : List Event) (left : ℕ) → w ≡ record v { seen = w.seen; own = own; left = left } → StartsWith w.seen v.seen → Grown v w → w.left ≤ v.left → Stays v w
stays_by v w own left same later grown fewer = record {
  turn = ap (λ (k : Passing). k.turn) same;
  actor = ap (λ (k : Passing). k.actor) same;
  about = ap (λ (k : Passing). k.about) same;
  later = later;
  grown = grown;
  fewer = fewer;
}

pub went_stays : (v w : Passing) (xs : Trace) → Went v xs w → Stays v w
went_stays v w xs p = let less = p.grew.acts in stays_by v w w.own w.left p.same p.later (p.grew.more, p.grew.own_is) (omega (arith, less))

pub vain_stays : (v w : Passing) (q : Request) → InVain v q w → Stays v w
vain_stays v w q p = let acts : w.left + length p.times ≡ v.left = p.acts in stays_by v w v.own w.left p.same (in_vain_later v w q p) (vain_grown v w q p) (omega (arith, acts))

pub asked_stays : (v w : Passing) (q : Request) (r : Answer) → Asked v q r w → Stays v w
asked_stays v w q r x =
    let act : w.left + 1 ≡ x.before.left = x.act in
    let acts : x.before.left + length x.in_vain.times ≡ v.left = x.in_vain.acts in
    stays_by v w w.own w.left x.same (asked_later v w q r x) (_, x.own_is) (omega (arith, act, acts))

settles_stay : (u w : Passing) (r : Answer) → SettlesBehind r u w → Stays u w
settles_stay u w r s =
    let t = settles_to u w r s in
    let less : w.left + length t.more ≤ u.left = t.acts in
    stays_by u w w.own w.left t.same t.later (t.more, t.own_is) (omega (arith, less))

end_stays : (b : Bool) (v w : Passing) (q : Request) (exit : Exit) (reached : Reached) → EndsIf b v q exit reached w → Stays v w
end_stays true v w q exit reached e = ⊎_elim (λ wore. vain_stays v w _ wore.0.0) (λ t. stays_both v t.1 w (asked_stays v t.1 _ t.0 t.2) (settles_stay t.1 w t.0 t.5)) e
end_stays false v w q exit reached e = subst (λ (z : Passing). Stays v z) (sym e.0) (stays_self v)

ran_stays : (v w : Passing) (bodies : Option UnitBodies) (b : Begun) (scalars arguments : List ℤ) (reached : Reached) → RanOn bodies v b scalars arguments reached w → Stays v w
ran_stays v w bodies b scalars arguments reached n =
    stays_both v n.body w (went_stays v n.body n.trace n.went) (end_stays (held_by n.body == held_by v) n.body w (Complete n.ended.scalars n.ended.exit) n.ended.exit reached n.end_is)

flat_stays : (v u w : Passing) → Stays v u → w ≡ u → Stays v w
flat_stays v u w s is = subst (λ (z : Passing). Stays v z) (sym is) s

resumed_stays : (u w : Passing) (m f : Bool) (r : Answer) (log : List Event) (q : Request) (reached : Reached) → Resumed r log u m q reached w f → Stays u w
resumed_stays u w m f (Answers.Woken (Some s)) log q reached t = ran_stays u w t.0 (waited_for q) s (arguments_of q) reached t.3
resumed_stays u w m f r log q reached t = flat_stays u u w (stays_self u) t.0

waited_stays : (v w : Passing) (m f : Bool) (q : Request) (reached : Reached) → Waited v m q reached w f → Stays v w
waited_stays v w m f q reached t = ⊎_elim (λ wore. vain_stays v w Resume wore.0.0.0) (λ x. stays_both v x.1 w (asked_stays v x.1 Resume x.0 x.2) (resumed_stays x.1 w m f x.0 x.2.at q reached x.4)) t

followed_stays : (u w : Passing) (m f : Bool) (q : Request) (r : Answer) (log : List Event) (b : Begun) (reached : Reached) → Followed r log b u m q reached w f → Stays u w
followed_stays u w m f q (Answers.Started s) log b reached t = ran_stays u w t.0 b s (arguments_of q) reached t.3
followed_stays u w m f q Answers.Queued log b reached t = waited_stays u w m f q reached t
followed_stays u w m f q Answers.Suspended log b reached t = waited_stays u w m f q reached t
followed_stays u w m f q Answers.Delayed log b reached t = waited_stays u w m f q reached t
followed_stays u w m f q r log b reached t = flat_stays u u w (stays_self u) t.0

pub performed_stays : (v w : Passing) (m f : Bool) (q : Request) (reached : Reached) → Performed v m q reached w f → Stays v w
performed_stays v w m f q reached t = ⊎_elim (λ wore. vain_stays v w q wore.0.0.0)
    (λ x. stays_both v x.1 w (asked_stays v x.1 q x.0 x.2) (followed_stays x.1 w m f q x.0 x.2.at _ reached x.4)) t

quit_stays : (b : Bool) (v w : Passing) → QuitBy b v w → Stays v w
quit_stays true v w t = flat_stays v v w (stays_self v) t
quit_stays false v w t = ⊎_elim (λ none. flat_stays v v w (stays_self v) none.1) (λ x. asked_stays v w Quit x.0 x.1.0) t

pub quits_stays : (v w : Passing) → Quits v w → Stays v w
quits_stays v w t = quit_stays (nat_lt v.actor 11) v w t

-- a task asked once
pub quit_by : (b : Bool) (v w : Passing) (q : Request) (r : Answer) (begun : Begun) (lent : Option Lent) → b ≡ false → q ≡ Quit → RepliedOnce v q r begun lent w → QuitBy b v w
quit_by true v w q r begun lent e is x = absurd (cc e)
quit_by false v w q r begun lent e is x = let y : RepliedOnce v Quit r begun lent w = subst (λ (z : Request). RepliedOnce v z r begun lent w) is x in inr (r, (y.0.asked, y.1))
