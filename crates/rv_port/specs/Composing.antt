-- Traces compose, and one act is a trace. (own)
use Rattle.std.proofs.Common.{◌≡◌, ℕ, ◌+◌, ◌≤◌, List, [], ◌∷◌, ◌++◌, length, Option, Some, None, refl, sym, ap, ◌∙◌, subst, inl, inr, ⊎_elim, arith, append_assoc, append-nil, length-append}
use Rattle.rv_event.specs.Recorded.{recorded}
use Rattle.rv_event.specs.declared.entry.Request.{Request}
use Rattle.rv_event.specs.declared.entry.Answer.{Answer}
use Rattle.rv_event.specs.declared.entry.Recorded.{Recorded}
use Rattle.rv_history.specs.declared.limits.Limits.{Limits}
use Rattle.rv_turn.specs.Histories.{StartsWith}
use Rattle.rv_turn.specs.Prefixes.{starts_self, starts_both}
use Rattle.rv_behind.specs.Acting.{grown}
use Rattle.rv_meant.specs.Settles.{NeverSettles}
use Rattle.rv_accounts.specs.Seen.{but_settles}
use Rattle.rv_accounts.specs.WithoutSettles.{but_settles-append, fewer}
use Rattle.rv_port.specs.Traces.{Passing, limits_in, Trace, noted, noted_if, IsAnswered, EachAnswered, GrewBy, Steps, Went}
use Rattle.rv_behind.specs.declared.event.Event.{Event}

noted_if-append : (b : Option Recorded) (a : ℕ) (q : Request) (es fs : List Event) → noted_if b a q (es ++ fs) ≡ noted_if b a q es ++ fs
noted_if-append (Some w) a q es fs = refl
noted_if-append None a q es fs = refl

pub noted-append : (a : ℕ) (xs ys : Trace) → noted a (xs ++ ys) ≡ noted a xs ++ noted a ys
noted-append a [] ys = refl
noted-append a (x ∷ xs) ys = ap (noted_if (recorded x.1) a x.0) (noted-append a xs ys) ∙ noted_if-append (recorded x.1) a x.0 (noted a xs) (noted a ys)

no_length : {A : Type 0} (xs : List A) → length xs ≡ 0 → xs ≡ []
no_length [] e = refl
no_length (x ∷ xs) e = absurd (omega (arith, e))

-- a pair that was answered is answered still when more is seen later, and when less had been seen before
pub answered_wider : (limits : Limits) (a : ℕ) (seen seen' own own' later later' : List Event) (q : Request) (r : Answer) → StartsWith seen seen' → StartsWith later' later → own ≡ own' → IsAnswered limits a seen own later q r → IsAnswered limits a seen' own' later' q r
answered_wider limits a seen seen' own own' later later' q r before after is x =
    record { at = x.at; from = starts_both seen' seen x.at before x.from; to = starts_both (grown x.at a q r) later later' x.to after; own_is = x.own_is ∙ is; legal = x.legal; due_is = x.due_is }

-- a trace, and another one after it
pub each_both : (limits : Limits) (a : ℕ) (seen mid later : List Event) (left₁ left₂ : ℕ) (own : List Event) (xs ys : Trace) → StartsWith mid seen → StartsWith later mid → left₂ + length (noted a ys) ≤ left₁
    → EachAnswered limits a seen mid left₁ own xs → EachAnswered limits a mid later left₂ (own ++ noted a xs) ys → EachAnswered limits a seen later left₂ own (xs ++ ys)
each_both limits a seen mid later l₁ l₂ own [] ys p q few x y = wider own (own ++ []) ys (append-nil own) y where
  wider : (own own' : List Event) (ys : Trace) → own' ≡ own → EachAnswered limits a mid later l₂ own' ys → EachAnswered limits a seen later l₂ own ys
  wider own own' [] is t = tt
  wider own own' (y ∷ ys) is t = (
    ⊎_elim (λ h. inl (answered_wider limits a mid seen own' own later later y.0 y.1 p (starts_self later) is h)) (λ h. inr h) t.0,
    wider (own ++ noted a (y ∷ [])) (own' ++ noted a (y ∷ [])) ys (ap (λ (l : List Event). l ++ noted a (y ∷ [])) is) t.1,
  )
each_both limits a seen mid later l₁ l₂ own (x ∷ xs) ys p q few t u = (
  ⊎_elim (λ h. inl (answered_wider limits a seen seen own own mid later x.0 x.1 (starts_self seen) q refl h))
      (λ h. inr (h.0, omega (arith, h.1, few), noted-append a xs ys ∙ (ap (λ (l : List Event). l ++ noted a ys) h.2 ∙ no_length (noted a ys) (omega (arith, h.1, few)))))
      t.0,
  each_both limits a seen mid later l₁ l₂ (own ++ noted a (x ∷ [])) xs ys p q few t.1
      (subst (λ (l : List Event). EachAnswered limits a mid later l₂ l ys) (ap (λ (l : List Event). own ++ l) (first_of_all x xs) ∙ sym (append_assoc own (noted a (x ∷ [])) (noted a xs))) u),
) where
  first_of_all : (x : Request × Answer) (xs : Trace) → noted a (x ∷ xs) ≡ noted a (x ∷ []) ++ noted a xs
  first_of_all x xs = noted-append a (x ∷ []) xs

-- none of two traces is a settle
pub never_both : (xs ys : Trace) → NeverSettles xs → NeverSettles ys → NeverSettles (xs ++ ys)
never_both [] ys p q = q
never_both (x ∷ xs) ys p q = (p.0, never_both xs ys p.1 q)

pub never_first : (xs ys : Trace) → NeverSettles (xs ++ ys) → NeverSettles xs
never_first [] ys p = tt
never_first (x ∷ xs) ys p = (p.0, never_first xs ys p.1)

pub never_rest : (xs ys : Trace) → NeverSettles (xs ++ ys) → NeverSettles ys
never_rest [] ys p = p
never_rest (x ∷ xs) ys p = never_rest xs ys p.1

pub grew_none : (v : Passing) → GrewBy v [] v
grew_none v = record { more = []; own_is = sym (append-nil v.own); pairs = refl; acts = omega arith }

pub grew_both : (v u w : Passing) (xs ys : Trace) → u.actor ≡ v.actor → GrewBy v xs u → GrewBy u ys w → GrewBy v (xs ++ ys) w
grew_both v u w xs ys same p q = let few = p.acts in let more = q.acts in record {
  more = p.more ++ q.more;
  own_is = q.own_is ∙ (ap (λ (l : List Event). l ++ q.more) p.own_is ∙ append_assoc v.own p.more q.more);
  pairs = but_settles-append p.more q.more
      ∙ ((λ i. p.pairs i ++ (q.pairs ∙ ap (λ (n : ℕ). noted n ys) same) i) ∙ sym (noted-append v.actor xs ys));
  acts = omega (arith, few, more, length-append p.more q.more);
}

-- as many acts were taken at least as pairs are recorded
pub grew_acts : (v w : Passing) (xs : Trace) → GrewBy v xs w → w.left + length (noted v.actor xs) ≤ v.left
grew_acts v w xs g = let few = g.acts in let less = fewer g.more in let same : length (but_settles g.more) ≡ length (noted v.actor xs) = ap length g.pairs in omega (arith, few, less, same)

-- what there was, and what came since, without the settles
pub owned_then : (v w : Passing) (xs : Trace) → w.base ≡ v.base → GrewBy v xs w → but_settles (w.base ++ w.own) ≡ but_settles (v.base ++ v.own) ++ noted v.actor xs
owned_then v w xs same g =
    ap but_settles ((λ i. same i ++ g.own_is i) ∙ sym (append_assoc v.base v.own g.more))
    ∙ (but_settles-append (v.base ++ v.own) g.more ∙ ap (λ (l : List Event). but_settles (v.base ++ v.own) ++ l) g.pairs)

pub went_none : (v : Passing) → Went v [] v
went_none v = record { later = starts_self v.seen; asks = tt; grew = grew_none v; each = tt; steps = refl; same = refl }

steps_both : (v u w : Passing) (xs ys : Trace) → Steps v xs u → Steps u ys w → Steps v (xs ++ ys) w
steps_both v u w [] ys p q = subst (λ (z : Passing). Steps z ys w) p q
steps_both v u w (x ∷ xs) ys p q = (p.0, p.1, steps_both p.0 u w xs ys p.2 q)

pub went_both : (v u w : Passing) (xs ys : Trace) → Went v xs u → Went u ys w → Went v (xs ++ ys) w
went_both v u w xs ys p q =
    let sa : u.actor ≡ v.actor = ap (λ k. k.actor) p.same in
    let sb : u.base ≡ v.base = ap (λ k. k.base) p.same in
    let sl : u.about ≡ v.about = ap (λ k. k.about) p.same in
    let acts_w : w.left + length (noted v.actor ys) ≤ u.left = subst (λ (n : ℕ). w.left + length (noted n ys) ≤ u.left) sa (grew_acts u w ys q.grew) in
    let each_w : EachAnswered (limits_in v.about) v.actor u.seen w.seen w.left (but_settles (v.base ++ v.own) ++ noted v.actor xs) ys
    = subst (λ (z : Option Limits × ℕ × List Event). EachAnswered (limits_in z.0) z.1 u.seen w.seen w.left z.2 ys) (λ i. (sl i, sa i, owned_then v u xs sb p.grew i)) q.each in record {
      later = starts_both v.seen u.seen w.seen p.later q.later;
      asks = never_both xs ys p.asks q.asks;
      grew = grew_both v u w xs ys sa p.grew q.grew;
      each = each_both (limits_in v.about) v.actor v.seen u.seen w.seen u.left w.left (but_settles (v.base ++ v.own)) xs ys p.later q.later acts_w p.each each_w;
      steps = steps_both v u w xs ys p.steps q.steps;
      same = q.same ∙ ap (λ (k : Passing). record k { seen = w.seen; own = w.own; left = w.left }) p.same;
    }

-- The same of a trace of which nothing says yet that it has no settle

abbrev pub MayGo : Passing → Trace → Passing → Type 0
MayGo v xs w = NeverSettles xs → Went v xs w

pub may_none : (v : Passing) → MayGo v [] v
may_none v n = went_none v

pub may_both : (v u w : Passing) (xs ys : Trace) → MayGo v xs u → MayGo u ys w → MayGo v (xs ++ ys) w
may_both v u w xs ys p q n = went_both v u w xs ys (p (never_first xs ys n)) (q (never_rest xs ys n))
