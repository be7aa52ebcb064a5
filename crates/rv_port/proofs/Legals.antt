-- What a port has seen once it asked is legal, and so is each front of it.
use Rattle.std.proofs.Common.{◌≡◌, ◌⊎◌, inl, inr, ⊎_elim, ℕ, Bool, true, false, List, [], ◌∷◌, ◌++◌, reverse, Option, Some, None, sym, ap, ◌∙◌, subst}
use Rattle.std.proofs.lemmas.List.{reverse-append}
use Rattle.rv_access.specs.Words.{Words}
use Rattle.rv_shape.specs.Shape.{Shape}
use Rattle.rv_event.specs.Recorded.{recorded}
use Rattle.rv_event.specs.declared.entry.Answer.{Answer}
use Rattle.rv_event.specs.declared.entry.Entry.TheVariants.{Load, ListChange}
use Rattle.rv_event.specs.declared.entry.Recorded.{Recorded}
use Rattle.rv_event.specs.declared.entry.Request.{Request}
use Rattle.rv_event.specs.declared.entry.Request.TheVariants.{Settle}
use Rattle.rv_history.specs.declared.limits.Limits.{Limits}
use Rattle.rv_history.specs.Due.{out}
use Rattle.rv_history.specs.Journal.{shapes_before, lists_before}
use Rattle.rv_history.specs.Legal.{IsLegal, Legal}
use Rattle.rv_history.proofs.Growing.{front_is}
use Rattle.rv_accounts.proofs.Growing.{shapes_less, lists_less}
use Rattle.rv_behind.specs.Acting.{entered}
use Rattle.rv_behind.specs.Events.{marks, shapes_of, lists_of, history_back, history_at}
use Rattle.rv_behind.specs.declared.event.Event.{Event}
use Rattle.rv_behind.specs.declared.event.Event.TheVariants.{Asks, Loads, Lists}
use Rattle.rv_port.specs.Traces.{Passing, Trace, limits_in, drops, EachInVain, InVain, SettledBy, Asked, Tells, Steps}

-- Fronts

legal_less : (limits : Limits) (e : Event) (es : List Event) → Legal (history_back limits (e ∷ es)) → Legal (history_back limits es)
legal_less limits (Asks a q w) es l = l.0
legal_less limits (Loads s u) es l =
    let before : l.0 ≡ shapes_of es = sym (ap (λ (ss : List Shape). shapes_before Load ss) l.2 ∙ front_is l.0 l.1) ∙ shapes_less (Loads s u) es in
    subst (λ (ss : List Shape). IsLegal limits (marks es) ss (lists_of es)) before l.3
legal_less limits (Lists words) es l =
    let before : l.0 ≡ lists_of es = sym (ap (λ (ls : List (List Words)). lists_before ListChange ls) l.2 ∙ front_is l.0 l.1) ∙ lists_less (Lists words) es in
    subst (λ (ls : List (List Words)). IsLegal limits (marks es) (shapes_of es) ls) before l.3

legal_back : (limits : Limits) (newer older : List Event) → Legal (history_back limits (newer ++ older)) → Legal (history_back limits older)
legal_back limits [] older l = l
legal_back limits (e ∷ newer) older l = legal_back limits newer older (legal_less limits e (newer ++ older) l)

pub legal_front : (limits : Limits) (log rest : List Event) → Legal (history_at limits (log ++ rest)) → Legal (history_at limits log)
legal_front limits log rest l = legal_back limits (reverse rest) (reverse log) (subst (λ (es : List Event). Legal (history_back limits es)) (reverse-append log rest) l)

-- What is seen behind an ask

legal_entered : (limits : Limits) (a : ℕ) (at : List Event) (q : Request) (word : Option Recorded) → recorded (out (history_at limits at) a q) ≡ word → Legal (history_at limits at) → Legal (history_at limits (entered at a q word))
legal_entered limits a at q None due l = l
legal_entered limits a at q (Some word) due l = subst (λ (es : List Event). Legal (history_back limits es)) (sym (reverse-append at (Asks a q word ∷ []))) (l, due)

pub asked_legal : (v w : Passing) (q : Request) (r : Answer) → Asked v q r w → Legal (history_at (limits_in v.about) w.seen)
asked_legal v w q r x =
    subst (λ (l : List Event). Legal (history_at (limits_in v.about) l)) (sym x.seen_is)
    (legal_entered (limits_in v.about) v.actor x.at q (recorded r) (ap (λ (z : Answer). recorded z) (sym x.due_is)) x.legal)

-- nothing more was seen, or all of it is legal
abbrev pub SeesOn : Passing → Passing → Type 0
SeesOn v w = (w.about ≡ v.about) × ((w.seen ≡ v.seen) ⊎ Legal (history_at (limits_in v.about) w.seen))

sees_both : (v u w : Passing) → SeesOn v u → SeesOn u w → SeesOn v w
sees_both v u w p q = (
  q.0 ∙ p.0,
  ⊎_elim (λ e. ⊎_elim (λ f. inl (e ∙ f)) (λ l. inr (subst (λ (z : List Event). Legal (history_at (limits_in v.about) z)) (sym e) l)) p.1)
      (λ l. inr (subst (λ (z : Option Limits). Legal (history_at (limits_in z) w.seen)) p.0 l)) q.1,
)

in_vain_seen : (limits : Limits) (a : ℕ) (q : Request) (seen last : List Event) (xs : List (List Event)) → EachInVain limits a q seen xs last → (last ≡ seen) ⊎ Legal (history_at limits last)
in_vain_seen limits a q seen last [] t = inl t
in_vain_seen limits a q seen last (x ∷ xs) t = ⊎_elim (λ e. inr (subst (λ (z : List Event). Legal (history_at limits z)) (sym e) t.1)) (λ l. inr l) (in_vain_seen limits a q x last xs t.3)

vain_sees : (v w : Passing) (q : Request) → InVain v q w → SeesOn v w
vain_sees v w q p = (ap (λ (z : Passing). z.about) p.same, in_vain_seen (limits_in v.about) v.actor q v.seen w.seen p.times p.each)

asked_sees : (v w : Passing) (q : Request) (r : Answer) → Asked v q r w → SeesOn v w
asked_sees v w q r x = (ap (λ (z : Passing). z.about) x.same, inr (asked_legal v w q r x))

same_sees : (v w : Passing) → w ≡ v → SeesOn v w
same_sees v w e = (ap (λ (z : Passing). z.about) e, inl (ap (λ (z : Passing). z.seen) e))

settled_sees : (b : Bool) (answers : List Answer) (u w : Passing) → SettledBy b answers u w → SeesOn u w
settled_sees false [] u w t = same_sees u w t
settled_sees false (r ∷ rs) u w t = absurd t
settled_sees true [] u w t = vain_sees u w Settle t.0
settled_sees true (r ∷ rs) u w t = sees_both u t.0 w (asked_sees u t.0 Settle r t.1) (settled_sees (drops r) rs t.0 w t.2)

tells_sees : (v w : Passing) (q : Request) (r : Answer) → Tells v q r w → SeesOn v w
tells_sees v w q r t = ⊎_elim (λ x. sees_both v x.1 w (asked_sees v x.1 q x.0 x.2) (settled_sees (drops x.0) x.5.0 x.1 w x.5.1)) (λ x. vain_sees v w q x.0.0) t

pub steps_see : (v : Passing) (xs : Trace) (w : Passing) → Steps v xs w → SeesOn v w
steps_see v [] w t = same_sees v w t
steps_see v (x ∷ xs) w t = sees_both v t.0 w (tells_sees v t.0 x.0 x.1 t.1) (steps_see t.0 xs w t.2)
