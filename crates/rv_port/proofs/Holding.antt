-- How many objects an actor holds, behind what a port did.
use Rattle.std.proofs.Common.{◌≡◌, ℕ, suc, ◌+◌, ◌-◌, ◌<◌, ◌≤◌, List, [], ◌∷◌, ◌++◌, length, Bool, true, false, cond, eq-eqb, refl, sym, ap, ◌∙◌, subst, append-nil, arith, length-append, ⊎_elim, Option, Some, None, Ok, Err}
use Rattle.std.specs.Prelude.{is_some, Result, MatchResult}
use Rattle.rv_event.specs.Recorded.{recorded}
use Rattle.rv_event.specs.declared.entry.Answer.{Answer}
use Rattle.rv_event.specs.declared.entry.Answer.TheVariants as Answers
use Rattle.rv_event.specs.declared.entry.Recorded.{Recorded}
use Rattle.rv_event.specs.declared.entry.Request.{Request}
use Rattle.rv_event.specs.declared.entry.Request.TheVariants.{Quit}
use Rattle.rv_history.specs.declared.limits.Limits.{Limits}
use Rattle.rv_history.specs.Due.{out}
use Rattle.rv_turn.specs.Histories.{mine, StartsWith}
use Rattle.rv_turn.specs.Passes.{Acted, IsWorn, Meets}
use Rattle.rv_turn.specs.Prefixes.{starts_self}
use Rattle.rv_turn.specs.declared.pass.Worn.{Worn}
use Rattle.rv_meant.specs.Asks.{held_after, held_behind, recorded_if, recorded_of}
use Rattle.rv_meant.proofs.Nesting.{held_both}
use Rattle.rv_meant.proofs.Explaining.{recorded_held}
use Rattle.rv_meant.proofs.Settles.{ask_is, none_asked}
use Rattle.rv_meant.specs.Histories.{ask_of}
use Rattle.rv_meant.specs.Settles.{is_settle}
use Rattle.rv_behind.specs.Acting.{Does, Due, entered}
use Rattle.rv_behind.specs.declared.event.Ask.{Ask}
use Rattle.rv_behind.specs.declared.event.Ask.TheVariants as Wants
use Rattle.rv_behind.specs.declared.event.Reply.{Reply}
use Rattle.rv_behind.specs.declared.event.Reply.TheVariants as Gives
use Rattle.rv_behind.specs.Events.{by, history_at}
use Rattle.rv_behind.specs.declared.event.Begun.{Begun}
use Rattle.rv_behind.specs.declared.event.Event.{Event}
use Rattle.rv_behind.specs.declared.event.Event.TheVariants.{Asks}
use Rattle.rv_behind.specs.declared.event.Lent.{Lent}
use Rattle.rv_accounts.specs.Seen.{asked_at, but_settles}
use Rattle.rv_accounts.proofs.Growing.{asks_grow, others_stay}
use Rattle.rv_port.specs.Held.{held_by, held_past, Owns}
use Rattle.rv_port.specs.Traces.{Passing, Trace, limits_in, EachAnswered, Went, Asked, RepliedOnce}
use Rattle.rv_port.proofs.Accounting.{so_far}
use Rattle.rv_port.proofs.Actors.{later_entry}
use Rattle.rv_port.proofs.Fronts.{all_kept}

-- what its actor asked, and holds, by another pass of the same limits and actor
held_as : (v w : Passing) → w.about ≡ v.about → w.actor ≡ v.actor → held_by w ≡ held_behind 0 (asked_at (limits_in v.about) v.actor w.seen)
held_as v w e f = λ i. held_behind 0 (asked_at (limits_in (e i)) (f i) w.seen)

-- others change nothing
pub held_stays : (v w : Passing) → w.about ≡ v.about → w.actor ≡ v.actor → StartsWith w.seen v.seen → mine by v.actor w.seen ≡ mine by v.actor v.seen → held_by w ≡ held_by v
held_stays v w e f later same = held_as v w e f ∙ ap (λ (t : Trace). held_behind 0 t) (others_stay (limits_in v.about) v.actor v.seen w.seen later same)

-- behind a trace
module _ (v w : Passing) (trace : Trace) (owns : Owns v) (owned : Owns w) (went : Went v trace w) where
  abbrev a : ℕ
  a = v.actor

  abbrev limits : Limits
  limits = limits_in v.about

  abbrev own : List Event
  own = but_settles (v.base ++ v.own)

  each : EachAnswered limits a v.seen w.seen w.left own (trace ++ [])
  each = subst (λ (l : Trace). EachAnswered limits a v.seen w.seen w.left own l) (sym (append-nil trace)) went.each

  has : asked_at limits a w.seen ≡ asked_at limits a v.seen ++ recorded_of trace
  has = so_far limits a v.seen w.seen w.left own v.seen w.seen trace [] went.asks each went.later (ap but_settles owns) (starts_self w.seen) (all_kept v w trace owned went)

  pub held_went : held_by w ≡ held_behind (held_by v) trace
  held_went =
      held_as v w (ap (λ (z : Passing). z.about) went.same) (ap (λ (z : Passing). z.actor) went.same)
      ∙ (ap (λ (t : Trace). held_behind 0 t) has ∙ (held_both 0 (asked_at limits a v.seen) (recorded_of trace) ∙ recorded_held (held_by v) trace))

-- an answer that isn't recorded changes nothing
unrecorded_held : (n : ℕ) (q : Request) (r : Answer) → is_some (recorded r) ≡ false → held_after n r ≡ n
unrecorded_held n q r e = sym (recorded_held n ((q, r) ∷ [])) ∙ ap (λ (k : Bool). held_behind n (recorded_if k (q, r) [])) e

-- behind one ask
held_asked : (n : ℕ) (q : Request) (r : Answer) (s : Bool) → is_settle q ≡ s → held_behind n (ask_of q r) ≡ cond s n (held_after n r)
held_asked n q r true is = ap (λ (t : Trace). held_behind n t) (none_asked q r is)
held_asked n q r false is = ap (λ (t : Trace). held_behind n t) (ask_is q r is)

unrecorded_past : (n : ℕ) (r : Answer) (s : Bool) → held_after n r ≡ n → n ≡ cond s n (held_after n r)
unrecorded_past n r true e = refl
unrecorded_past n r false e = sym e

held_next : (limits : Limits) (a n : ℕ) (q : Request) (r : Answer) (word : Option Recorded) (at : List Event) → recorded r ≡ word → r ≡ out (history_at limits at) a q → held_behind 0 (asked_at limits a at) ≡ n → held_behind 0 (asked_at limits a (entered at a q word)) ≡ held_past q n r
held_next limits a n q r None at is due e = e ∙ unrecorded_past n r (is_settle q) (unrecorded_held n q r (ap (λ (o : Option Recorded). is_some o) is))
held_next limits a n q r (Some word) at is due e =
    ap (λ (t : Trace). held_behind 0 t) (asks_grow limits a at (Asks a q word) ∙ ap (λ (k : Bool). asked_at limits a at ++ cond k (ask_of q (out (history_at limits at) a q)) []) (eq-eqb a a refl))
    ∙ (held_both 0 (asked_at limits a at) (ask_of q (out (history_at limits at) a q)) ∙ ((λ i. held_behind (e i) (ask_of q (sym due i))) ∙ held_asked n q r (is_settle q) refl))

pub asked_held : (v w : Passing) (q : Request) (r : Answer) → Owns v → Asked v q r w → held_by w ≡ held_past q (held_by v) r
asked_held v w q r owns x =
    held_as v w (ap (λ (z : Passing). z.about) x.same) (ap (λ (z : Passing). z.actor) x.same)
    ∙ (ap (λ (l : List Event). held_behind 0 (asked_at (limits_in v.about) v.actor l)) x.seen_is
    ∙ held_next (limits_in v.about) v.actor (held_by v) q r (recorded r) x.at refl x.due_is
    (ap (λ (t : Trace). held_behind 0 t) (others_stay (limits_in v.about) v.actor v.seen x.at x.from (x.owned ∙ sym owns))))

-- The count of an asker

abbrev request_in : Ask → Request
request_in (Wants.Step q) = q
request_in other = Quit

-- the request that was sent is the one that was asked
pub past_sent : (p q : Request) (n : ℕ) (r : Answer) → Wants.Step p ≡ Wants.Step q → held_past p n r ≡ held_past q n r
past_sent p q n r e = ap (λ (k : Ask). held_past (request_in k) n r) e

pub counts_replied : (v w : Passing) (q : Request) (r : Answer) (begun : Begun) (lent : Option Lent) (result : Result Unit Worn) (held after : ℕ) → MatchResult result (λ _. RepliedOnce v q r begun lent w) (λ _. IsWorn v w) → Owns v → held ≡ held_by v
    → result ≡ Ok tt → after ≡ held_past q held r → after ≡ held_by w
counts_replied v w q r begun lent (Ok u) held after x owns counts is e = e ∙ (ap (λ (n : ℕ). held_past q n r) counts ∙ sym (asked_held v w q r owns x.0.asked))
counts_replied v w q r begun lent (Err u) held after x owns counts is e = absurd (cc is)

more_few : (n held : ℕ) (r : Answer) → n ≡ held_after held r → n ≤ suc held
more_few n held (Answers.Woken (Some s)) e = omega (arith, e)
more_few n held r e = omega (arith, e)

past_few : (n held : ℕ) (r : Answer) (s : Bool) → n ≡ cond s held (held_after held r) → n ≤ suc held
past_few n held r true e = omega (arith, e)
past_few n held r false e = more_few n held r e

act_taken : (v w : Passing) (q : Request) (r : Answer) → Asked v q r w → w.left + 1 ≤ v.left
act_taken v w q r x = let act : w.left + 1 ≡ x.before.left = x.act in let acts : x.before.left + length x.in_vain.times ≡ v.left = x.in_vain.acts in omega (arith, act, acts)

pub few_replied : (v w : Passing) (q : Request) (r : Answer) (begun : Begun) (lent : Option Lent) (result : Result Unit Worn) (held after most : ℕ) → MatchResult result (λ _. RepliedOnce v q r begun lent w) (λ _. IsWorn v w) → held + v.left < most
    → result ≡ Ok tt → after ≡ held_past q held r → after + w.left < most
few_replied v w q r begun lent (Ok u) held after most x few is e =
    let less : w.left + 1 ≤ v.left = act_taken v w q r x.0.asked in
    let more : after ≤ suc held = past_few after held r (is_settle q) e in
    omega (arith, few, less, more)
few_replied v w q r begun lent (Err u) held after most x few is e = absurd (cc is)

-- The count in what asks nothing for the actor

stays_counted : (v w : Passing) (held : ℕ) → w.about ≡ v.about → w.actor ≡ v.actor → w.base ≡ v.base → w.own ≡ v.own → StartsWith w.seen v.seen → Owns v → Owns w → held ≡ held_by v → held ≡ held_by w
stays_counted v w held about actor base own later owns owned counts =
    counts ∙ sym (held_stays v w about actor later (ap (λ (n : ℕ). mine by n w.seen) (sym actor) ∙ (owned ∙ ((λ i. base i ++ own i) ∙ sym owns))))

pub counts_met : (v w : Passing) (note : List Event) (held : ℕ) → Meets by v note w → Owns v → held ≡ held_by v → held ≡ held_by w
counts_met v w note held m owns counts =
    stays_counted v w held (ap (λ (z : Passing). z.about) m.same) (ap (λ (z : Passing). z.actor) m.same) (ap (λ (z : Passing). z.base) m.same) (ap (λ (z : Passing). z.own) m.same) m.earlier owns m.owns counts

pub bodies_same : (limits : Limits) (log : List Event) (actor : ℕ) (reply : Reply) (after : List Event) → Due limits log actor Wants.Bodies reply after → after ≡ log
bodies_same limits log actor (Gives.Bodies lent) after d = d.1
bodies_same limits log actor reply after d = absurd d

none_more : (xs : List Event) (e : Event) → xs ≡ xs ++ e ∷ [] → ⊥
none_more xs e h = let l : length xs ≡ length (xs ++ e ∷ []) = ap length h in let m : length (xs ++ e ∷ []) ≡ length xs + 1 = length-append xs (e ∷ []) in omega (arith, l, m)

pub borrow_own : (v w : Passing) (reply : Reply) → Acted by Does v Wants.Bodies reply w → w.own ≡ v.own
borrow_own v w reply x = ⊎_elim (λ y. y.1) (λ y. absurd (none_more x.at y.0 (sym (bodies_same x.about x.at v.actor reply w.seen x.answer.2) ∙ y.2))) x.entry

pub counts_borrowed : (v w : Passing) (reply : Reply) (held : ℕ) → Acted by Does v Wants.Bodies reply w → Owns v → held ≡ held_by v → held ≡ held_by w
counts_borrowed v w reply held x owns counts =
    stays_counted v w held (ap (λ (z : Passing). z.about) x.same) (ap (λ (z : Passing). z.actor) x.same) (ap (λ (z : Passing). z.base) x.same) (borrow_own v w reply x) (later_entry x.at v.seen v w x.later x.entry) owns x.owns counts

pub counts_lent : (v w : Passing) (result : Result Reply Worn) (held : ℕ) → MatchResult result (λ r. Acted by Does v Wants.Bodies r w) (λ _. IsWorn v w) → Owns v → held ≡ held_by v → held ≡ held_by w
counts_lent v w (Ok reply) held x owns counts = counts_borrowed v w reply held x owns counts
counts_lent v w (Err e) held x owns counts = subst (λ (z : Passing). held ≡ held_by z) (sym x.1) counts

pub few_lent : (v w : Passing) (result : Result Reply Worn) (held most : ℕ) → MatchResult result (λ r. Acted by Does v Wants.Bodies r w) (λ _. IsWorn v w) → held + v.left < most → held + w.left < most
few_lent v w (Ok reply) held most x few = let e : w.left ≡ v.left - 1 = ap (λ (z : Passing). z.left) x.same in omega (arith, few, e)
few_lent v w (Err e) held most x few = subst (λ (z : Passing). held + z.left < most) (sym x.1) few

-- a new port holds nothing
pub counts_new : (v : Passing) → Owns v → v.base ≡ [] → v.own ≡ [] → 0 ≡ held_by v
counts_new v owns base own = sym (ap (λ (t : Trace). held_behind 0 t) (others_stay (limits_in v.about) v.actor [] v.seen (v.seen, refl) (owns ∙ (λ i. base i ++ own i))))

pub few_new : (n most : ℕ) → n < most → 0 + n < most
few_new n most e = omega (arith, e)
