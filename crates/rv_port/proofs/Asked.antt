-- What one ask leaves explained, and recorded.
use Rattle.std.proofs.Common.{◌≡◌, ⊎_elim, ℕ, ℤ, List, [], ◌∷◌, ◌++◌, Bool, true, false, cond, eqb, eq-eqb, refl, sym, ap, ◌∙◌, subst, append-nil, Option, Some, None}
use Rattle.std.specs.Prelude.{is_some, nat_lt}
use Rattle.std.proofs.lemmas.Bool.{eqb-true}
use Rattle.rv_access.specs.Words.{Words}
use Rattle.rv_shape.specs.Shape.{Shape}
use Rattle.rv_event.specs.Recorded.{recorded}
use Rattle.rv_event.specs.declared.entry.Answer.{Answer}
use Rattle.rv_event.specs.declared.entry.Answer.TheVariants as Answers
use Rattle.rv_event.specs.declared.entry.Entry.{Entry}
use Rattle.rv_event.specs.declared.entry.Entry.TheVariants.{Asked, Load, ListChange}
use Rattle.rv_event.specs.declared.entry.Exit.{Exit}
use Rattle.rv_event.specs.declared.entry.Next.{Next}
use Rattle.rv_event.specs.declared.entry.Recorded.{Recorded}
use Rattle.rv_event.specs.declared.entry.Recorded.TheVariants as Recordeds
use Rattle.rv_event.specs.declared.entry.Request.{Request}
use Rattle.rv_event.specs.declared.entry.Request.TheVariants.{Complete, Settle, Quit}
use Rattle.rv_history.specs.declared.limits.Limits.{Limits}
use Rattle.rv_history.specs.Due.{out}
use Rattle.rv_history.specs.History.{History}
use Rattle.rv_history.specs.Journal.{shapes_before, lists_before}
use Rattle.rv_history.specs.Legal.{IsLegal, Legal}
use Rattle.rv_history.proofs.Growing.{front_is}
use Rattle.rv_turn.specs.Histories.{mine, StartsWith}
use Rattle.rv_turn.specs.Passes.{Acted, Meets}
use Rattle.rv_meant.specs.Asks.{AreRecorded}
use Rattle.rv_meant.specs.Histories.{ask_of, asked_in, own_ask, history_of, asks_of}
use Rattle.rv_meant.specs.Settles.{is_settle}
use Rattle.rv_meant.proofs.Settles.{ask_is, none_asked}
use Rattle.rv_meant.proofs.Nesting.{recorded_both}
use Rattle.rv_behind.specs.Acting.{Does, entered}
use Rattle.rv_behind.specs.declared.event.Ask.TheVariants as Wants
use Rattle.rv_behind.specs.declared.event.Reply.{Reply}
use Rattle.rv_behind.specs.Events.{by, history_at}
use Rattle.rv_behind.specs.declared.event.Event.{Event}
use Rattle.rv_behind.specs.declared.event.Event.TheVariants.{Asks}
use Rattle.rv_accounts.specs.Explained.{ExplainedEnd, Explained}
use Rattle.rv_accounts.specs.Seen.{asked_at}
use Rattle.rv_accounts.proofs.Growing.{asks_grow, others_stay}
use Rattle.rv_accounts.proofs.Staying.{stays, others, nothing}
use Rattle.rv_port.specs.Held.{asked_so_far, Owns}
use Rattle.rv_port.specs.Traces.{Passing, Trace, limits_in, drops, SettledBy, SettlesBehind, InVain}
use Rattle.rv_port.specs.Traces as traces
use Rattle.rv_port.proofs.Accounting.{first_or, none_there, request_in, rest_of, word_in}
use Rattle.rv_port.specs.Calls.{QuitBy, Quits}
use Rattle.rv_port.proofs.Actors.{later_entry}
use Rattle.rv_port.proofs.Asking.{in_vain_later}
use Rattle.rv_port.proofs.Holding.{borrow_own}
use Rattle.rv_port.specs.Ends.{EndsExplained}
use Rattle.rv_port.proofs.Since.{done_is}

-- One event more

one_end : (at : List Event) (e c : Event) (rest after : List Event) → at ++ e ∷ [] ≡ (at ++ rest) ++ c ∷ after → (rest ≡ []) × (e ≡ c)
one_end [] e c [] after h = (refl, ap (λ (l : List Event). first_or e l) h)
one_end [] e c (d ∷ ds) after h = absurd (none_there c ds after (ap (λ (l : List Event). rest_of l) h))
one_end (x ∷ at) e c rest after h = one_end at e c rest after (ap (λ (l : List Event). rest_of l) h)

module _ (limits : Limits) (a : ℕ) (at : List Event) (q : Request) (word : Recorded) (old : Explained limits at a)
    (new : (scalars : List ℤ) (exit : Exit) (next : Next) → q ≡ Complete scalars exit → word ≡ Recordeds.Done next → ExplainedEnd limits a at scalars exit) where
  abbrev one : Event
  one = Asks a q word

  at_end : (before after : List Event) (scalars : List ℤ) (exit : Exit) (next : Next) → StartsWith before at → at ++ one ∷ [] ≡ before ++ Asks a (Complete scalars exit) (Recordeds.Done next) ∷ after → ExplainedEnd limits a before scalars exit
  at_end before after scalars exit next p e =
      let c : Event = Asks a (Complete scalars exit) (Recordeds.Done next) in
      let o = one_end at one c p.0 after (e ∙ ap (λ (l : List Event). l ++ c ∷ after) p.1) in
      subst (λ (l : List Event). ExplainedEnd limits a l scalars exit) (sym (p.1 ∙ (ap (λ (l : List Event). at ++ l) o.0 ∙ append-nil at)))
      (new scalars exit next (ap (λ (d : Event). request_in q d) o.1) (ap (λ (d : Event). word_in word d) o.1))

  pub explained_more : Explained limits (at ++ one ∷ []) a
  explained_more = stays limits at (at ++ one ∷ []) a (one ∷ [], refl) old (λ before after scalars exit next p e. at_end before after scalars exit next p e)

explained_entered : (limits : Limits) (a : ℕ) (at : List Event) (q : Request) (r : Answer) (word : Option Recorded) → recorded r ≡ word → Explained limits at a
    → ((scalars : List ℤ) (exit : Exit) (next : Next) → q ≡ Complete scalars exit → r ≡ Answers.Done next → ExplainedEnd limits a at scalars exit) → Explained limits (entered at a q word) a
explained_entered limits a at q r None is old new = old
explained_entered limits a at q r (Some word) is old new =
    explained_more limits a at q word old (λ scalars exit next e f. new scalars exit next e (done_is r next (is ∙ ap (λ (w : Recorded). Some w) f)))

-- one ask, whose end is explained, if it is one
pub asked_explained : (v w : Passing) (q : Request) (r : Answer) (x : traces.Asked v q r w) → Owns v → EndsExplained v
    → ((scalars : List ℤ) (exit : Exit) (next : Next) → q ≡ Complete scalars exit → r ≡ Answers.Done next → ExplainedEnd (limits_in v.about) v.actor x.at scalars exit) → EndsExplained w
asked_explained v w q r x owns old new =
    subst (λ (z : Limits × List Event × ℕ). Explained z.0 z.1 z.2) (λ i. (sym (ap (λ (z : Passing). limits_in z.about) x.same) i, sym x.seen_is i, sym (ap (λ (z : Passing). z.actor) x.same) i))
    (explained_entered (limits_in v.about) v.actor x.at q r (recorded r) refl (others (limits_in v.about) v.seen x.at v.actor x.from (x.owned ∙ sym owns) old) new)

-- what asks nothing for the actor
pub same_explained : (v w : Passing) → w.about ≡ v.about → w.actor ≡ v.actor → w.base ≡ v.base → w.own ≡ v.own → StartsWith w.seen v.seen → Owns v → Owns w → EndsExplained v → EndsExplained w
same_explained v w about actor base own later owns owned old =
    let same : mine by v.actor w.seen ≡ mine by v.actor v.seen = ap (λ (n : ℕ). mine by n w.seen) (sym actor) ∙ (owned ∙ ((λ i. base i ++ own i) ∙ sym owns)) in
    subst (λ (z : Limits × ℕ). Explained z.0 w.seen z.1) (λ i. (limits_in (sym about i), sym actor i))
    (others (limits_in v.about) v.seen w.seen v.actor later same old)

-- what was asked in vain
pub vain_explained : (v w : Passing) (q : Request) → InVain v q w → Owns v → Owns w → EndsExplained v → EndsExplained w
vain_explained v w q x owns owned old =
    same_explained v w (ap (λ (z : Passing). z.about) x.same) (ap (λ (z : Passing). z.actor) x.same) (ap (λ (z : Passing). z.base) x.same) (ap (λ (z : Passing). z.own) x.same) (in_vain_later v w q x) owns owned old

-- a note that is met
pub met_explained : (v w : Passing) (note : List Event) → Meets by v note w → Owns v → EndsExplained v → EndsExplained w
met_explained v w note m owns old =
    same_explained v w (ap (λ (z : Passing). z.about) m.same) (ap (λ (z : Passing). z.actor) m.same) (ap (λ (z : Passing). z.base) m.same) (ap (λ (z : Passing). z.own) m.same) m.earlier owns m.owns old

-- bodies that are lent
pub lent_explained : (v w : Passing) (reply : Reply) → Acted by Does v Wants.Bodies reply w → Owns v → EndsExplained v → EndsExplained w
lent_explained v w reply x owns old =
    same_explained v w (ap (λ (z : Passing). z.about) x.same) (ap (λ (z : Passing). z.actor) x.same) (ap (λ (z : Passing). z.base) x.same) (borrow_own v w reply x) (later_entry x.at v.seen v w x.later x.entry) owns x.owns old

-- the settles behind an end explain nothing
settled_explained : (b : Bool) (answers : List Answer) (u w : Passing) → SettledBy b answers u w → Owns u → Owns w → EndsExplained u → EndsExplained w
settled_explained false [] u w t owns owned old = subst (λ (z : Passing). EndsExplained z) (sym t) old
settled_explained false (r ∷ rs) u w t owns owned old = absurd t
settled_explained true [] u w t owns owned old = vain_explained u w Settle t.0 owns owned old
settled_explained true (r ∷ rs) u w t owns owned old =
    settled_explained (drops r) rs t.0 w t.2 t.1.owns owned (asked_explained u t.0 Settle r t.1 owns old (λ scalars exit next e f. absurd (cc e)))

pub settles_explained : (u w : Passing) (r : Answer) → SettlesBehind r u w → Owns u → Owns w → EndsExplained u → EndsExplained w
settles_explained u w r s owns owned old = settled_explained (drops r) s.0 u w s.1 owns owned old

-- a quit
quit_explained : (b : Bool) (v w : Passing) → QuitBy b v w → Owns v → EndsExplained v → EndsExplained w
quit_explained true v w t owns old = subst (λ (z : Passing). EndsExplained z) (sym t) old
quit_explained false v w t owns old =
    ⊎_elim (λ x. subst (λ (z : Passing). EndsExplained z) (sym x.1) old)
    (λ x. asked_explained v w Quit x.0 x.1.0 owns old (λ scalars exit next e f. absurd (cc e))) t

pub quits_explained : (v w : Passing) → Quits v w → Owns v → EndsExplained v → EndsExplained w
quits_explained v w t owns old = quit_explained (nat_lt v.actor 11) v w t owns old

-- a new port
pub new_explained : (v : Passing) → Owns v → v.base ≡ [] → v.own ≡ [] → EndsExplained v
new_explained v owns base own = nothing (limits_in v.about) v.seen v.actor (owns ∙ (λ i. base i ++ own i))

-- What an actor asked in a legal history has entries

own_recorded : (a b : ℕ) (q : Request) (word : Recorded) (h : History) → recorded (out h b q) ≡ Some word → AreRecorded (own_ask a (Asked b q word) h)
own_recorded a b q word h e = by_test (eqb b a) refl where
  by_settle : (s : Bool) → is_settle q ≡ s → is_some (recorded (out h a q)) ≡ true → AreRecorded (ask_of q (out h a q))
  by_settle true settles some = subst (λ (l : Trace). AreRecorded l) (sym (none_asked q (out h a q) settles)) tt
  by_settle false settles some = subst (λ (l : Trace). AreRecorded l) (sym (ask_is q (out h a q) settles)) (some, tt)

  by_test : (k : Bool) → eqb b a ≡ k → AreRecorded (cond k (ask_of q (out h a q)) [])
  by_test true is = by_settle (is_settle q) refl (ap (λ (n : ℕ). is_some (recorded (out h n q))) (sym (eqb-true b a is)) ∙ ap (λ (o : Option Recorded). is_some o) e)
  by_test false is = tt

in_recorded : (limits : Limits) (a : ℕ) (past : List Entry) (shapes : List Shape) (lists : List (List Words)) → IsLegal limits past shapes lists → AreRecorded (asked_in limits a past shapes lists)
in_recorded limits a [] shapes lists t = tt
in_recorded limits a (Asked b q word ∷ past) shapes lists t =
    recorded_both (asked_in limits a past shapes lists) (own_ask a (Asked b q word) (history_of limits past shapes lists)) (in_recorded limits a past shapes lists t.0)
    (own_recorded a b q word (history_of limits past shapes lists) t.1)
in_recorded limits a (Load ∷ past) shapes lists t =
    let before : shapes_before Load shapes ≡ t.0 = ap (λ (s : List Shape). shapes_before Load s) t.2 ∙ front_is t.0 t.1 in
    subst (λ (l : Trace). AreRecorded l) (sym (append-nil (asked_in limits a past (shapes_before Load shapes) lists)))
    (subst (λ (s : List Shape). AreRecorded (asked_in limits a past s lists)) (sym before) (in_recorded limits a past t.0 lists t.3))
in_recorded limits a (ListChange ∷ past) shapes lists t =
    let before : lists_before ListChange lists ≡ t.0 = ap (λ (l : List (List Words)). lists_before ListChange l) t.2 ∙ front_is t.0 t.1 in
    subst (λ (l : Trace). AreRecorded l) (sym (append-nil (asked_in limits a past shapes (lists_before ListChange lists))))
    (subst (λ (l : List (List Words)). AreRecorded (asked_in limits a past shapes l)) (sym before) (in_recorded limits a past shapes t.0 t.3))

pub legal_recorded : (h : History) (a : ℕ) → Legal h → AreRecorded (asks_of a h)
legal_recorded h a t = in_recorded h.limits a h.past h.shapes h.lists t

-- an ask more
asked_entered : (limits : Limits) (a : ℕ) (at : List Event) (q : Request) (r : Answer) (word : Option Recorded) → is_settle q ≡ false → is_some word ≡ true → r ≡ out (history_at limits at) a q → asked_at limits a (entered at a q word) ≡ asked_at limits a at ++ (q, r) ∷ []
asked_entered limits a at q r None plain is due = absurd (cc is)
asked_entered limits a at q r (Some word) plain is due =
    asks_grow limits a at (Asks a q word)
    ∙ (ap (λ (k : Bool). asked_at limits a at ++ cond k (ask_of q (out (history_at limits at) a q)) []) (eq-eqb a a refl)
    ∙ (ap (λ (z : Answer). asked_at limits a at ++ ask_of q z) (sym due) ∙ ap (λ (l : Trace). asked_at limits a at ++ l) (ask_is q r plain)))

module _ (v w : Passing) (q : Request) (r : Answer) (x : traces.Asked v q r w) (owns : Owns v) where
  asked_then : asked_at (limits_in v.about) v.actor x.at ≡ asked_so_far v
  asked_then = others_stay (limits_in v.about) v.actor v.seen x.at x.from (x.owned ∙ sym owns)

  pub asked_more : is_settle q ≡ false → is_some (recorded r) ≡ true → asked_so_far w ≡ asked_so_far v ++ (q, r) ∷ []
  asked_more plain is =
      (λ i. asked_at (ap (λ (z : Passing). limits_in z.about) x.same i) (ap (λ (z : Passing). z.actor) x.same i) (x.seen_is i))
      ∙ (asked_entered (limits_in v.about) v.actor x.at q r (recorded r) plain is x.due_is ∙ ap (λ (t : Trace). t ++ (q, r) ∷ []) asked_then)

  pub all_recorded : AreRecorded (asked_so_far v)
  all_recorded = subst (λ (t : Trace). AreRecorded t) asked_then (legal_recorded (history_at (limits_in v.about) x.at) v.actor x.legal)
