-- One act of a pass as an ask of a port.
use Rattle.std.proofs.Common.{◌≡◌, ◌⊎◌, ℕ, ◌+◌, ◌-◌, ◌<◌, ◌≤◌, Bool, true, false, List, [], ◌∷◌, ◌++◌, length, Option, Some, None, refl, sym, ap, ◌∙◌, subst, ⊎_elim, arith, append-nil, length-append}
use Rattle.rv_event.specs.Recorded.{recorded}
use Rattle.rv_event.specs.declared.entry.Request.{Request}
use Rattle.rv_event.specs.declared.entry.Answer.{Answer}
use Rattle.rv_event.specs.declared.entry.Answer.TheVariants as Answers
use Rattle.rv_event.specs.declared.entry.Recorded.{Recorded}
use Rattle.rv_history.specs.declared.limits.Limits.{Limits}
use Rattle.rv_history.specs.Due.{out}
use Rattle.rv_history.specs.Legal.{Legal}
use Rattle.rv_turn.specs.Histories.{mine, StartsWith}
use Rattle.rv_turn.specs.Passes.{Acted, IsWorn}
use Rattle.rv_behind.specs.Events.{by, history_at, catalogue_of}
use Rattle.rv_behind.specs.Acting.{entered, grown, Does, begun_by}
use Rattle.rv_port.specs.Traces.{Passing, limits_in, told, IsTold, IsKnown, asked_again, asks_on, comes_again, noted, noted_if, EachInVain, InVain, WoreOut, Asked, Replied, RepliedOnce, Settled}
use Rattle.rv_port.proofs.Lasting.{again_at, calm_of}
use Rattle.std.specs.Prelude.{Result, Ok, Err, MatchResult}
use Rattle.rv_turn.specs.declared.pass.Worn.{Worn}
use Rattle.rv_exec.specs.Asking.{stands}
use Rattle.rv_turn.specs.Prefixes.{starts_self, starts_both}
use Rattle.rv_behind.specs.declared.event.Begun.{Begun}
use Rattle.rv_behind.specs.declared.event.Lent.{Lent}
use Rattle.rv_behind.specs.declared.event.Event.{Event}
use Rattle.rv_behind.specs.declared.event.Event.TheVariants.{Asks, Lists}
use Rattle.rv_behind.specs.declared.event.Ask.TheVariants as Wants
use Rattle.rv_behind.specs.declared.event.Reply.TheVariants as Gives

abbrev last_or : Event → List Event → Event
last_or d [] = d
last_or d (x ∷ xs) = last_or x xs

last_snoc : (d : Event) (xs : List Event) (e : Event) → last_or d (xs ++ e ∷ []) ≡ e
last_snoc d [] e = refl
last_snoc d (x ∷ xs) e = last_snoc x xs e

same_last : (xs : List Event) (e f : Event) → xs ++ e ∷ [] ≡ xs ++ f ∷ [] → e ≡ f
same_last xs e f is = sym (last_snoc (Lists []) xs e) ∙ (ap (last_or (Lists [])) is ∙ last_snoc (Lists []) xs f)

not_longer : (xs : List Event) (e : Event) (X : Type 0) → xs ≡ xs ++ e ∷ [] → X
not_longer xs e X is = absurd (omega (arith, ap length is, length-append xs (e ∷ [])))

-- the pass's own events grow by the answer's event, where there is one
own_grows : (word : Option Recorded) (a : ℕ) (q : Request) (at seen own own' : List Event) → seen ≡ entered at a q word
    → ((seen ≡ at) × (own' ≡ own)) ⊎ ((e : Event) × (by e ≡ a) × (seen ≡ at ++ e ∷ []) × (own' ≡ own ++ e ∷ [])) → own' ≡ own ++ noted_if word a q []
own_grows (Some w) a q at seen own own' is t = ⊎_elim (λ x. not_longer at (Asks a q w) _ (sym x.0 ∙ is)) (λ x. x.3 ∙ ap (λ (e : Event). own ++ e ∷ []) (same_last at x.0 (Asks a q w) (sym x.2 ∙ is))) t
own_grows None a q at seen own own' is t = ⊎_elim (λ x. x.1 ∙ sym (append-nil own)) (λ x. not_longer at x.0 _ (sym is ∙ x.2)) t

pub told_recorded : (r : Answer) → recorded (told r) ≡ recorded r
told_recorded (Answers.Started s) = refl
told_recorded r = refl

pub noted_one : (word : Option Recorded) (a : ℕ) (q : Request) → length (noted_if word a q []) ≤ 1
noted_one (Some w) a q = omega arith
noted_one None a q = omega arith

starts_entered : (word : Option Recorded) (a : ℕ) (q : Request) (log : List Event) → StartsWith (entered log a q word) log
starts_entered (Some w) a q log = (Asks a q w ∷ [], refl)
starts_entered None a q log = starts_self log

pub not_kept : (limits : Limits) (log : List Event) (a : ℕ) (q : Request) (r : Answer) → comes_again limits log a q r ≡ true → recorded r ≡ None
not_kept limits log a q (Answers.Started s) e = absurd (cc e)
not_kept limits log a q Answers.Queued e = absurd (cc e)
not_kept limits log a q (Answers.Refused rule line version) e = absurd (cc e)
not_kept limits log a q (Answers.Done n) e = absurd (cc e)
not_kept limits log a q Answers.Suspended e = absurd (cc e)
not_kept limits log a q Answers.Delayed e = absurd (cc e)
not_kept limits log a q (Answers.Woken s) e = absurd (cc e)
not_kept limits log a q (Answers.Accepted n) e = absurd (cc e)
not_kept limits log a q r e = refl

-- asks in vain

in_vain_none : (v : Passing) (q : Request) → InVain v q v
in_vain_none v q = record { times = []; each = refl; acts = omega arith; same = refl }

each_both : (limits : Limits) (a : ℕ) (q : Request) (seen mid last : List Event) (xs ys : List (List Event)) → EachInVain limits a q seen xs mid → EachInVain limits a q mid ys last → EachInVain limits a q seen (xs ++ ys) last
each_both limits a q seen mid last [] ys t u = subst (λ (z : List Event). EachInVain limits a q z ys last) t u
each_both limits a q seen mid last (x ∷ xs) ys t u = (t.0, t.1, t.2, each_both limits a q x mid last xs ys t.3 u)

each_later : (limits : Limits) (a : ℕ) (q : Request) (seen last : List Event) (xs : List (List Event)) → EachInVain limits a q seen xs last → StartsWith last seen
each_later limits a q seen last [] t = subst (λ (z : List Event). StartsWith z seen) (sym t) (starts_self seen)
each_later limits a q seen last (x ∷ xs) t = starts_both seen x last t.0 (each_later limits a q x last xs t.3)

pub in_vain_later : (v w : Passing) (q : Request) → InVain v q w → StartsWith w.seen v.seen
in_vain_later v w q p = each_later (limits_in v.about) v.actor q v.seen w.seen p.times p.each

in_vain_both : (v u w : Passing) (q : Request) → InVain v q u → InVain u q w → InVain v q w
in_vain_both v u w q p r = let sa : u.actor ≡ v.actor = ap (λ (k : Passing). k.actor) p.same in let sl : u.about ≡ v.about = ap (λ (k : Passing). k.about) p.same in
    let one : u.left + length p.times ≡ v.left = p.acts in let two : w.left + length r.times ≡ u.left = r.acts in record {
      times = p.times ++ r.times;
      each = each_both (limits_in v.about) v.actor q v.seen u.seen w.seen p.times r.times p.each
          (subst (λ (z : Option Limits × ℕ). EachInVain (limits_in z.0) z.1 q u.seen r.times w.seen) (λ i. (sl i, sa i)) r.each);
      acts = omega (arith, one, two, length-append p.times r.times);
      same = r.same ∙ ap (λ (k : Passing). record k { seen = w.seen; left = w.left }) p.same;
    }

-- an answer by which the request is made again
pub in_vain_more : (v u w : Passing) (q : Request) (r : Answer) → InVain v q u → (x : Asked u q r w) → comes_again (limits_in u.about) x.at u.actor q r ≡ true → InVain v q w
in_vain_more v u w q r p x e = in_vain_both v u w q p (one) where
  none : recorded r ≡ None
  none = not_kept (limits_in u.about) x.at u.actor q r e

  same_seen : w.seen ≡ x.at
  same_seen = x.seen_is ∙ ap (λ (b : Option Recorded). entered x.at u.actor q b) none

  same_own : w.own ≡ u.own
  same_own = x.own_is ∙ (ap (λ (b : Option Recorded). u.own ++ noted_if b u.actor q []) none ∙ append-nil u.own)

  act : w.left + 1 ≡ x.before.left
  act = x.act

  acts : x.before.left + length x.in_vain.times ≡ u.left
  acts = x.in_vain.acts

  one : InVain u q w
  one = record {
    times = x.in_vain.times ++ x.at ∷ [];
    each = each_both (limits_in u.about) u.actor q u.seen x.before.seen w.seen x.in_vain.times (x.at ∷ []) x.in_vain.each
        (x.later, x.legal, sym (ap (comes_again (limits_in u.about) x.at u.actor q) x.due_is) ∙ e, same_seen);
    acts = omega (arith, act, acts, length-append x.in_vain.times (x.at ∷ []));
    same = x.same ∙ ap (λ (l : List Event). record u { seen = w.seen; own = l; left = w.left }) same_own;
  }

-- what was seen then begins with what was seen before
pub asked_grown : (v w : Passing) (q : Request) (r : Answer) (x : Asked v q r w) → StartsWith w.seen x.at
asked_grown v w q r x = subst (λ (l : List Event). StartsWith l x.at) (sym x.seen_is) (starts_entered (recorded r) v.actor q x.at)

pub asked_later : (v w : Passing) (q : Request) (r : Answer) → Asked v q r w → StartsWith w.seen v.seen
asked_later v w q r x = starts_both v.seen x.at w.seen x.from (subst (λ (l : List Event). StartsWith l x.at) (sym x.seen_is) (starts_entered (recorded r) v.actor q x.at))

-- one act is one ask
pub asked_act : (v w : Passing) (q : Request) (r : Answer) (at : List Event) (limits : Limits) → v.about ≡ Some limits → StartsWith at v.seen → mine by v.actor at ≡ v.base ++ v.own
    → Legal (history_at limits at) → r ≡ out (history_at limits at) v.actor q → w.seen ≡ grown at v.actor q r
    → ((w.seen ≡ at) × (w.own ≡ v.own)) ⊎ ((e : Event) × (by e ≡ v.actor) × (w.seen ≡ at ++ e ∷ []) × (w.own ≡ v.own ++ e ∷ []))
    → mine by w.actor w.seen ≡ w.base ++ w.own → 0 < v.left → w ≡ record v { seen = w.seen; own = w.own; left = v.left - 1 } → Asked v q r w
asked_act v w q r at limits about later owned legal due grew entry owns some same =
    let same_limits : limits ≡ limits_in v.about = sym (ap limits_in about) in
    let legal' : Legal (history_at (limits_in v.about) at) = subst (λ (n : Limits). Legal (history_at n at)) same_limits legal in
    let due' : r ≡ out (history_at (limits_in v.about) at) v.actor q = due ∙ ap (λ (n : Limits). out (history_at n at) v.actor q) same_limits in
    let own : w.own ≡ v.own ++ noted v.actor ((q, r) ∷ []) = own_grows (recorded r) v.actor q at w.seen v.own w.own grew entry in
    let fewer : w.left ≡ v.left - 1 = ap (λ (k : Passing). k.left) same in record {
      before = v;
      in_vain = in_vain_none v q;
      at = at;
      later = later;
      from = later;
      owned = owned;
      legal = legal';
      due_is = due';
      seen_is = grew;
      own_is = own;
      owns = owns;
      act = omega (arith, fewer, some);
      same = same ∙ ap (λ (n : ℕ). record v { seen = w.seen; own = w.own; left = n }) (sym fewer);
    }

-- an ask after others that were in vain
pub asked_after : (v u w : Passing) (q : Request) (r : Answer) → InVain v q u → Asked u q r w → Asked v q r w
asked_after v u w q r p x = let sa : u.actor ≡ v.actor = ap (λ (k : Passing). k.actor) p.same in let sb : u.base ≡ v.base = ap (λ (k : Passing). k.base) p.same in
    let so : u.own ≡ v.own = ap (λ (k : Passing). k.own) p.same in let sl : u.about ≡ v.about = ap (λ (k : Passing). k.about) p.same in record {
      before = x.before;
      in_vain = in_vain_both v u x.before q p x.in_vain;
      at = x.at;
      later = x.later;
      from = starts_both v.seen u.seen x.at (in_vain_later v u q p) x.from;
      owned = subst (λ (n : ℕ). mine by n x.at ≡ v.base ++ v.own) sa (x.owned ∙ (λ i. sb i ++ so i));
      legal = subst (λ (n : Option Limits). Legal (history_at (limits_in n) x.at)) sl x.legal;
      due_is = x.due_is ∙ (λ i. out (history_at (limits_in (sl i)) x.at) (sa i) q);
      seen_is = x.seen_is ∙ ap (λ (n : ℕ). grown x.at n q r) sa;
      own_is = x.own_is ∙ (ap (λ (n : ℕ). u.own ++ noted n ((q, r) ∷ [])) sa ∙ ap (λ (l : List Event). l ++ noted v.actor ((q, r) ∷ [])) so);
      owns = x.owns;
      act = x.act;
      same = x.same ∙ ap (λ (k : Passing). record k { seen = w.seen; own = w.own; left = w.left }) p.same;
    }

pub is_told : (r : Answer) → asks_on r ≡ false → IsTold (told r)
is_told Answers.Busy e = absurd (cc e)
is_told Answers.Waiting e = absurd (cc e)
is_told r e = tt

-- what a body is told doesn't leave its request standing
pub told_stands : (r : Answer) → IsTold r → stands r ≡ false
told_stands Answers.Misuse t = absurd t
told_stands Answers.Busy t = absurd t
told_stands Answers.Waiting t = absurd t
told_stands r t = refl

none_times : (v : Passing) (q : Request) → (in_vain_none v q).times ≡ []
unfolding in_vain_none
none_times v q = refl

-- one act by a step
replied_step : (v w : Passing) (q : Request) (r : Answer) (b : Begun) (lent : Option Lent) → Acted by Does v (Wants.Step q) (Gives.Answered r b lent) w → RepliedOnce v q r b lent w
unfolding asked_act
replied_step v w q r b lent a = (
  record {
    asked = asked_act v w q r a.at a.about a.about_is a.later a.owned a.answer.0 a.answer.2.0.0 a.answer.2.0.1 a.entry a.owns a.some_left a.same;
    begun_is = a.answer.2.1;
    lent_is = a.answer.2.2;
  },
  none_times v q,
)

-- after asks that are left out
pub replied_after : (v u w : Passing) (q : Request) (r : Answer) (b : Begun) (lent : Option Lent) → InVain v q u → Replied u q r b lent w → Replied v q r b lent w
unfolding asked_after
replied_after v u w q r b lent p x = record {
  asked = asked_after v u w q r p x.asked;
  lent_is = x.lent_is;
  begun_is = x.begun_is ∙ ap (λ (n : ℕ). begun_by (catalogue_of x.asked.at) n q r) (ap (λ (k : Passing). k.actor) p.same);
}

-- one act of a port
pub replied_act : {T : Type 0} (v w : Passing) (q : Request) (r : Answer) (b : Begun) (lent : Option Lent) (sent : Result T Worn) → MatchResult sent (λ _. Acted by Does v (Wants.Step q) (Gives.Answered r b lent) w) (λ _. IsWorn v w)
    → MatchResult sent (λ _. RepliedOnce v q r b lent w) (λ _. IsWorn v w)
replied_act v w q r b lent (Ok sent) a = replied_step v w q r b lent a
replied_act v w q r b lent (Err worn) a = a

-- the answer to what was asked once
pub once_of : {T : Type 0} (u w : Passing) (p : Request) (r : Answer) (b : Begun) (lent : Option Lent) (sent : Result T Worn) (done : T) → MatchResult sent (λ _. RepliedOnce u p r b lent w) (λ _. IsWorn u w) → sent ≡ Ok done → RepliedOnce u p r b lent w
once_of {T} u w p r b lent sent done x is = subst (λ (z : Result T Worn). MatchResult z (λ _. RepliedOnce u p r b lent w) (λ _. IsWorn u w)) is x

-- the request is made again
pub vain_again : {T : Type 0} (v u w : Passing) (q p : Request) (r : Answer) (b : Begun) (lent : Option Lent) (sent : Result T Worn) (done : T) → InVain v q u → p ≡ q → MatchResult sent (λ _. RepliedOnce u p r b lent w) (λ _. IsWorn u w) → sent ≡ Ok done
    → (lasting : Bool) → (lasting ≡ true → IsKnown u) → asked_again lasting r ≡ true → InVain v q w
vain_again v u w q p r b lent sent done before same x is lasting known e =
    let once : Asked u p r w = (once_of u w p r b lent sent done x is).0.asked in
    subst (λ (z : Request). InVain v z w) same
    (in_vain_more v u w p r (subst (λ (z : Request). InVain v z u) (sym same) before) once (again_at lasting u once.at p r known once.from e))

-- the request isn't made again
pub settled : {T : Type 0} (v u w : Passing) (q p : Request) (r : Answer) (b : Begun) (lent : Option Lent) (sent : Result T Worn) (done : T) → InVain v q u → p ≡ q → MatchResult sent (λ _. RepliedOnce u p r b lent w) (λ _. IsWorn u w) → sent ≡ Ok done
    → (lasting : Bool) → asked_again lasting r ≡ false → Settled v q r b lent w
settled v u w q p r b lent sent done before same x is lasting e = (
  subst (λ (z : Request). Replied v z r b lent w) same (replied_after v u w p r b lent (subst (λ (z : Request). InVain v z u) (sym same) before) (once_of u w p r b lent sent done x is).0),
  calm_of lasting r e,
)

-- the answer that was handed on
pub sent_of : {T : Type 0} (v w : Passing) (q p : Request) (r : Answer) (b : Begun) (lent : Option Lent) (sent : Result T Worn) (done : T) → MatchResult sent (λ _. Settled v p r b lent w) (λ _. WoreOut v p w) → p ≡ q → sent ≡ Ok done
    → Settled v q r b lent w
sent_of {T} v w q p r b lent sent done x same is =
    subst (λ (z : Request). Settled v z r b lent w) same (subst (λ (z : Result T Worn). MatchResult z (λ _. Settled v p r b lent w) (λ _. WoreOut v p w)) is x)

-- no answer was
pub unsent_of : {T : Type 0} (v w : Passing) (q p : Request) (r : Answer) (b : Begun) (lent : Option Lent) (sent : Result T Worn) (worn : Worn) → MatchResult sent (λ _. Settled v p r b lent w) (λ _. WoreOut v p w) → p ≡ q → sent ≡ Err worn
    → WoreOut v q w
unsent_of {T} v w q p r b lent sent worn x same is =
    subst (λ (z : Request). WoreOut v z w) same (subst (λ (z : Result T Worn). MatchResult z (λ _. Settled v p r b lent w) (λ _. WoreOut v p w)) is x)
