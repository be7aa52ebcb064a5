-- The settles behind an end: what they leave, and an ask with those behind it as a pair of a trace.
use Rattle.std.proofs.Common.{◌≡◌, ℕ, ◌+◌, ◌≤◌, Bool, true, false, cond, List, [], ◌∷◌, ◌++◌, length, Option, Some, None, refl, sym, ap, ◌∙◌, subst, inl, inr, ⊎_elim, arith, append_assoc, append-nil, length-append}
use Rattle.rv_event.specs.Recorded.{recorded}
use Rattle.rv_event.specs.declared.entry.Request.{Request}
use Rattle.rv_event.specs.declared.entry.Request.TheVariants.{Settle}
use Rattle.rv_event.specs.declared.entry.Answer.{Answer}
use Rattle.rv_event.specs.declared.entry.Answer.TheVariants as Answers
use Rattle.rv_event.specs.declared.entry.Next.{Next}
use Rattle.rv_event.specs.declared.entry.Next.TheVariants.{Nothing, HandedTo, Dropped}
use Rattle.rv_event.specs.declared.entry.Recorded.{Recorded}
use Rattle.rv_event.specs.declared.entry.Recorded.TheVariants as Words
use Rattle.rv_turn.specs.Histories.{StartsWith}
use Rattle.rv_turn.specs.Prefixes.{starts_self, starts_both}
use Rattle.rv_meant.specs.Settles.{is_settle}
use Rattle.rv_accounts.specs.Seen.{but_settles}
use Rattle.rv_accounts.specs.WithoutSettles.{but_settles-append}
use Rattle.rv_behind.specs.Acting.{entered, grown}
use Rattle.rv_behind.specs.Events.{history_at}
use Rattle.rv_behind.specs.declared.event.Begun.{Begun}
use Rattle.rv_behind.specs.declared.event.Event.{Event}
use Rattle.rv_behind.specs.declared.event.Event.TheVariants.{Asks}
use Rattle.rv_behind.specs.declared.event.Lent.{Lent}
use Rattle.rv_port.specs.Traces.{Passing, limits_in, told, asks_on, noted, noted_if, drops, SettledBy, SettlesBehind, SettlesIf, Tells, WoreOut, Went, Asked, Replied}
use Rattle.rv_port.specs.Calls.{AreSettles}
use Rattle.rv_port.proofs.Asking.{told_recorded, noted_one, in_vain_later, asked_later}
use Rattle.rv_port.proofs.Gets.{of_end, settle_gets}

-- What settles leave

pub record SettlesTo (u w : Passing) : Type 0 where
  pub later : StartsWith w.seen u.seen
  pub more : List Event
  pub own_is : w.own ≡ u.own ++ more
  pub none : but_settles more ≡ []
  pub acts : w.left + length more ≤ u.left
  pub same : w ≡ record u { seen = w.seen; own = w.own; left = w.left }

to_self : (u : Passing) → SettlesTo u u
to_self u = record { later = starts_self u.seen; more = []; own_is = sym (append-nil u.own); none = refl; acts = omega arith; same = refl }

to_worn : (u w : Passing) (q : Request) → WoreOut u q w → SettlesTo u w
to_worn u w q p = let so : w.own ≡ u.own = ap (λ (k : Passing). k.own) p.0.same in let acts : w.left + length p.0.times ≡ u.left = p.0.acts in record {
  later = in_vain_later u w q p.0;
  more = [];
  own_is = so ∙ sym (append-nil u.own);
  none = refl;
  acts = omega (arith, acts);
  same = p.0.same ∙ ap (λ (l : List Event). record u { seen = w.seen; own = l; left = w.left }) (sym so);
}

settle_none : (word : Option Recorded) (a : ℕ) → but_settles (noted_if word a Settle []) ≡ []
settle_none None a = refl
settle_none (Some w) a = refl

to_both : (u k w : Passing) (r : Answer) → Asked u Settle r k → SettlesTo k w → SettlesTo u w
to_both u k w r x s =
    let one : length (noted u.actor ((Settle, r) ∷ [])) ≤ 1 = noted_one (recorded r) u.actor Settle in
    let act : k.left + 1 ≡ x.before.left = x.act in
    let acts : x.before.left + length x.in_vain.times ≡ u.left = x.in_vain.acts in
    let few : w.left + length s.more ≤ k.left = s.acts in record {
      later = starts_both u.seen k.seen w.seen (asked_later u k Settle r x) s.later;
      more = noted u.actor ((Settle, r) ∷ []) ++ s.more;
      own_is = s.own_is ∙ (ap (λ (l : List Event). l ++ s.more) x.own_is ∙ append_assoc u.own (noted u.actor ((Settle, r) ∷ [])) s.more);
      none = but_settles-append (noted u.actor ((Settle, r) ∷ [])) s.more ∙ (λ i. settle_none (recorded r) u.actor i ++ s.none i);
      acts = omega (arith, one, act, acts, few, length-append (noted u.actor ((Settle, r) ∷ [])) s.more);
      same = s.same ∙ ap (λ (z : Passing). record z { seen = w.seen; own = w.own; left = w.left }) x.same;
    }

settled_to : (b : Bool) (answers : List Answer) (u w : Passing) → SettledBy b answers u w → SettlesTo u w
settled_to false [] u w t = subst (λ (z : Passing). SettlesTo u z) (sym t) (to_self u)
settled_to false (r ∷ rs) u w t = absurd t
settled_to true [] u w t = to_worn u w Settle t
settled_to true (r ∷ rs) u w t = to_both u t.0 w r t.1 (settled_to (drops r) rs t.0 w t.2)

pub settles_to : (u w : Passing) (r : Answer) → SettlesBehind r u w → SettlesTo u w
settles_to u w r s = settled_to (drops r) s.0 u w s.1

-- behind an answer that drops nobody nothing is asked
none_by : (b : Bool) (answers : List Answer) (u w : Passing) → b ≡ false → SettledBy b answers u w → w ≡ u
none_by false [] u w e t = t
none_by false (r ∷ rs) u w e t = absurd t
none_by true rs u w e t = absurd (cc e)

pub none_behind : (u w : Passing) (r : Answer) → drops r ≡ false → SettlesBehind r u w → w ≡ u
none_behind u w r e s = none_by (drops r) s.0 u w e s.1

-- Their events

abbrev pub Settles : Next → Passing → Passing → Type 0
Settles next u w = (behind : List Event) × (w.own ≡ u.own ++ behind) × AreSettles u.actor next behind

same_own : (next : Next) (u w : Passing) → w.own ≡ u.own → Settles next u w
same_own next u w e = ([], e ∙ sym (append-nil u.own), tt)

one_settle : (m line : ℕ) (next : Next) (u k w : Passing) → Asked u Settle (Answers.Done next) k → Settles next k w → Settles (Dropped m line) u w
one_settle m line next u k w x s = (
  Asks u.actor Settle (Words.Done next) ∷ s.0,
  s.1 ∙ (ap (λ (l : List Event). l ++ s.0) x.own_is ∙ append_assoc u.own (Asks u.actor Settle (Words.Done next) ∷ []) s.0),
  (next, refl, subst (λ (n : ℕ). AreSettles n next s.0) (ap (λ (z : Passing). z.actor) x.same) s.2),
)

no_event : (next : Next) (u k w : Passing) (r : Answer) (rs : List Answer) → recorded r ≡ None → drops r ≡ false → Asked u Settle r k → SettledBy (drops r) rs k w → Settles next u w
no_event next u k w r rs none e x t =
    let none_own : k.own ≡ u.own = x.own_is ∙ (ap (λ (o : Option Recorded). u.own ++ noted_if o u.actor Settle []) none ∙ append-nil u.own) in
    same_own next u w (ap (λ (z : Passing). z.own) (none_by (drops r) rs k w e t) ∙ none_own)

settled_events : (next : Next) (answers : List Answer) (u w : Passing) → SettledBy (drops (Answers.Done next)) answers u w → Settles next u w
settled_events Nothing [] u w t = same_own Nothing u w (ap (λ (z : Passing). z.own) t)
settled_events Nothing (r ∷ rs) u w t = absurd t
settled_events (HandedTo m) [] u w t = same_own (HandedTo m) u w (ap (λ (z : Passing). z.own) t)
settled_events (HandedTo m) (r ∷ rs) u w t = absurd t
settled_events (Dropped m line) [] u w t = same_own (Dropped m line) u w (ap (λ (z : Passing). z.own) t.0.same)
settled_events (Dropped m line) (r ∷ rs) u w t =
    by_answer r t.1 (ap of_end t.1.due_is ∙ settle_gets (history_at (limits_in u.about) t.1.at) u.actor) t.2 (λ next s. settled_events next rs t.0 w s) where
      by_answer : (r : Answer) → Asked u Settle r t.0 → of_end r ≡ true → SettledBy (drops r) rs t.0 w → ((next : Next) → SettledBy (drops (Answers.Done next)) rs t.0 w → Settles next t.0 w) → Settles (Dropped m line) u w
      by_answer (Answers.Done next) x e s more = one_settle m line next u t.0 w x (more next s)
      by_answer (Answers.Started c) x e s more = absurd (cc e)
      by_answer Answers.Queued x e s more = absurd (cc e)
      by_answer (Answers.Refused rule at version) x e s more = absurd (cc e)
      by_answer Answers.Suspended x e s more = absurd (cc e)
      by_answer Answers.Delayed x e s more = absurd (cc e)
      by_answer (Answers.Woken c) x e s more = absurd (cc e)
      by_answer (Answers.Accepted n) x e s more = absurd (cc e)
      by_answer r x e s more = no_event (Dropped m line) u t.0 w r rs refl refl x s

pub settles_events : (next : Next) (u w : Passing) → SettlesBehind (Answers.Done next) u w → Settles next u w
settles_events next u w s = settled_events next s.0 u w s.1

-- An ask, with the settles behind it, as a trace

pair_plain : (word : Option Recorded) (a : ℕ) (q : Request) → is_settle q ≡ false → but_settles (noted_if word a q []) ≡ noted_if word a q []
pair_plain None a q e = refl
pair_plain (Some w) a q e = ap (λ (b : Bool). cond b [] (Asks a q w ∷ [])) e

pub asked_went : (v u w : Passing) (q : Request) (r : Answer) → is_settle q ≡ false → Asked v q r u → asks_on r ≡ false → SettlesBehind r u w → Went v ((q, told r) ∷ []) w
asked_went v u w q r plain x n behind =
    let s : SettlesTo u w = settles_to u w r behind in
    let tells : noted v.actor ((q, told r) ∷ []) ≡ noted v.actor ((q, r) ∷ []) = ap (λ (z : Option Recorded). noted_if z v.actor q []) (told_recorded r) in
    let grew : u.seen ≡ grown x.at v.actor q (told r) = x.seen_is ∙ ap (λ (z : Option Recorded). entered x.at v.actor q z) (sym (told_recorded r)) in
    let one : length (noted v.actor ((q, r) ∷ [])) ≤ 1 = noted_one (recorded r) v.actor q in
    let act : u.left + 1 ≡ x.before.left = x.act in
    let acts : x.before.left + length x.in_vain.times ≡ v.left = x.in_vain.acts in
    let few : w.left + length s.more ≤ u.left = s.acts in record {
      later = starts_both v.seen u.seen w.seen (asked_later v u q r x) s.later;
      asks = (plain, tt);
      grew = record {
        more = noted v.actor ((q, r) ∷ []) ++ s.more;
        own_is = s.own_is ∙ (ap (λ (l : List Event). l ++ s.more) x.own_is ∙ append_assoc v.own (noted v.actor ((q, r) ∷ [])) s.more);
        pairs = but_settles-append (noted v.actor ((q, r) ∷ [])) s.more
            ∙ ((λ i. pair_plain (recorded r) v.actor q plain i ++ s.none i) ∙ (append-nil (noted v.actor ((q, r) ∷ [])) ∙ sym tells));
        acts = omega (arith, one, act, acts, few, length-append (noted v.actor ((q, r) ∷ [])) s.more);
      };
      each = (
        inl record {
          at = x.at;
          from = x.from;
          to = subst (λ (l : List Event). StartsWith w.seen l) grew s.later;
          own_is = ap but_settles x.owned;
          legal = x.legal;
          due_is = ap told x.due_is;
        },
        tt,
      );
      steps = (w, inl (r, u, x, n, refl, behind), refl);
      same = s.same ∙ ap (λ (z : Passing). record z { seen = w.seen; own = w.own; left = w.left }) x.same;
    }

-- where no act is left a body is told Full
pub worn_told : (v w : Passing) (q : Request) → is_settle q ≡ false → WoreOut v q w → Went v ((q, Answers.Full) ∷ []) w
worn_told v w q plain p = let s : SettlesTo v w = to_worn v w q p in let few : w.left + length s.more ≤ v.left = s.acts in let none = s.none in record {
  later = s.later;
  asks = (plain, tt);
  grew = record { more = s.more; own_is = s.own_is; pairs = none; acts = few };
  each = (inr (refl, p.1, refl), tt);
  steps = (w, inr (p, refl), refl);
  same = s.same;
}

pub tells_went : (v w : Passing) (q : Request) (r : Answer) → is_settle q ≡ false → Tells v q r w → Went v ((q, r) ∷ []) w
tells_went v w q r plain t = ⊎_elim (λ x. subst (λ (z : Answer). Went v ((q, z) ∷ []) w) (sym x.4) (asked_went v x.1 w q x.0 plain x.2 x.3 x.5))
    (λ x. subst (λ (z : Answer). Went v ((q, z) ∷ []) w) (sym x.1) (worn_told v w q plain x.0)) t

-- what is seen then
pub tells_later : (v w : Passing) (q : Request) (r : Answer) → Tells v q r w → StartsWith w.seen v.seen
tells_later v w q r t = ⊎_elim (λ x. starts_both v.seen x.1.seen w.seen (asked_later v x.1 q x.0 x.2) (settles_to x.1 w x.0 x.5).later) (λ x. in_vain_later v w q x.0.0) t

-- a body is told the answer itself
pub answer_told : (v u w : Passing) (q : Request) (r t : Answer) (b : Begun) (lent : Option Lent) → is_settle q ≡ false → Replied v q r b lent u → asks_on r ≡ false → t ≡ told r → SettlesBehind r u w → Went v ((q, t) ∷ []) w
answer_told v u w q r t b lent plain x n is s = subst (λ (z : Answer). Went v ((q, z) ∷ []) w) (sym is) (asked_went v u w q r plain x.asked n s)

-- Settles so far, and those that follow

pub none_dropped : (b : Bool) (v : Passing) → b ≡ false → SettlesIf b v v
none_dropped true v e = absurd (cc e)
none_dropped false v e = ([], refl)

pub kept_behind : (r : Answer) (v : Passing) → drops r ≡ false → SettlesBehind r v v
kept_behind r v e = none_dropped (drops r) v e

pub dropped_behind : (r : Answer) (v w : Passing) → drops r ≡ true → SettlesIf true v w → SettlesBehind r v w
dropped_behind r v w e s = subst (λ (b : Bool). SettlesIf b v w) (sym e) s

pub one_more : (b c : Bool) (v u w : Passing) (r : Answer) → b ≡ true → c ≡ drops r → Asked v Settle r u → SettlesIf c u w → SettlesIf b v w
one_more true c v u w r e d x s = (r ∷ s.0, (u, x, subst (λ (z : Bool). SettledBy z s.0 u w) d s.1))
one_more false c v u w r e d x s = absurd (cc e)
