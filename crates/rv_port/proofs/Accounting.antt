-- What a trace of a port left in what it has seen.
use Rattle.std.proofs.Common.{◌≡◌, ◌⊎◌, inl, inr, ⊎_elim, ℕ, List, [], ◌∷◌, ◌++◌, Bool, false, cond, eq-eqb, refl, sym, ap, ◌∙◌, subst, append_assoc, append-nil, Option, Some, None}
use Rattle.std.specs.Prelude.{is_some}
use Rattle.rv_event.specs.Recorded.{recorded}
use Rattle.rv_event.specs.declared.entry.Request.{Request}
use Rattle.rv_event.specs.declared.entry.Answer.{Answer}
use Rattle.rv_event.specs.declared.entry.Answer.TheVariants as Answers
use Rattle.rv_event.specs.declared.entry.Recorded.{Recorded}
use Rattle.rv_history.specs.declared.limits.Limits.{Limits}
use Rattle.rv_history.specs.Due.{out}
use Rattle.rv_turn.specs.Histories.{mine, StartsWith}
use Rattle.rv_turn.specs.Prefixes.{starts_both, mine-append}
use Rattle.rv_meant.specs.Asks.{recorded_if, recorded_of}
use Rattle.rv_meant.specs.Histories.{ask_of}
use Rattle.rv_meant.specs.Settles.{is_settle, NeverSettles}
use Rattle.rv_meant.proofs.Settles.{ask_is}
use Rattle.rv_behind.specs.Events.{by, history_at}
use Rattle.rv_behind.specs.Acting.{entered, grown}
use Rattle.rv_behind.specs.declared.event.Event.{Event}
use Rattle.rv_behind.specs.declared.event.Event.TheVariants.{Asks, Loads, Lists}
use Rattle.rv_accounts.specs.Seen.{asked_at, but_settles}
use Rattle.rv_accounts.specs.WithoutSettles.{but_settles-append}
use Rattle.rv_accounts.proofs.Growing.{asks_grow, asks_stay}
use Rattle.rv_port.specs.Traces.{Trace, told, noted, noted_if, IsAnswered, IsWorn, EachAnswered}
use Rattle.rv_port.specs.Composing.{noted-append}

-- Histories that one begins with

-- of two, one begins with the other
abbrev pub Compared : List Event → List Event → Type 0
Compared one other = StartsWith one other ⊎ StartsWith other one

cons_compared : (e d : Event) (one other : List Event) → e ≡ d → Compared one other → Compared (e ∷ one) (d ∷ other)
cons_compared e d one other h (inl w) = inl (w.0, λ i. h i ∷ w.1 i)
cons_compared e d one other h (inr w) = inr (w.0, λ i. sym h i ∷ w.1 i)

abbrev pub first_or : Event → List Event → Event
first_or e [] = e
first_or e (d ∷ ds) = d

abbrev pub rest_of : List Event → List Event
rest_of [] = []
rest_of (d ∷ ds) = ds

pub compared : (one other more rest : List Event) → one ++ more ≡ other ++ rest → Compared one other
compared [] other more rest e = inr (other, refl)
compared (d ∷ one) [] more rest e = inl (d ∷ one, refl)
compared (d ∷ one) (c ∷ other) more rest e =
    cons_compared d c one other (ap (λ (l : List Event). first_or d l) e) (compared one other more rest (ap (λ (l : List Event). rest_of l) e))

-- of two fronts on which an actor asked as much, settles aside, both have the same asks
pub same_asks : (limits : Limits) (a : ℕ) (one other later : List Event) → StartsWith later one → StartsWith later other → but_settles (mine by a one) ≡ but_settles (mine by a other) → asked_at limits a one ≡ asked_at limits a other
same_asks limits a one other later w z e =
    ⊎_elim (λ h. asks_stay limits a other one h e) (λ h. sym (asks_stay limits a one other h (sym e))) (compared one other w.0 z.0 (sym w.1 ∙ z.1))

-- Answers

pub told_recorded : (d : Answer) (word : Recorded) → recorded (told d) ≡ Some word → told d ≡ d
told_recorded Answers.Misuse word e = absurd (cc e)
told_recorded d word e = refl

-- The asks of a trace, in what was seen

module _ (limits : Limits) (a : ℕ) (seen later : List Event) (left : ℕ) where
  -- a front of what was seen later, with this one's asks and with those of a trace so far
  abbrev pub HasThen : List Event → List Event → Trace → Type 0
  HasThen base p done = asked_at limits a p ≡ asked_at limits a base ++ recorded_of done

  -- how the rest of a trace is accounted for
  abbrev Rest : List Event → Trace → Trace → Type 0
  Rest p done rest = (own base : List Event) → EachAnswered limits a seen later left own (done ++ rest) → StartsWith later base → but_settles (mine by a base) ≡ own → but_settles (mine by a p) ≡ own ++ noted a done → HasThen base p done

  one_more : (own base p : List Event) (q : Request) (r : Answer) (done rest : Trace) (word : Option Recorded) → recorded r ≡ word → is_settle q ≡ false → Rest p done rest → IsAnswered limits a seen own later q r ⊎ IsWorn a left r (done ++ rest)
      → EachAnswered limits a seen later left (own ++ noted a ((q, r) ∷ [])) (done ++ rest) → StartsWith later base → but_settles (mine by a base) ≡ own → but_settles (mine by a p) ≡ own ++ noted a ((q, r) ∷ done) → HasThen base p ((q, r) ∷ done)
  one_more own base p q r done rest None is plain go x y w b e =
      let none : noted a ((q, r) ∷ []) ≡ [] = ap (λ (o : Option Recorded). noted_if o a q []) is in
      go (own ++ noted a ((q, r) ∷ [])) base y w (b ∙ sym (ap (λ (l : List Event). own ++ l) none ∙ append-nil own))
      (e ∙ (ap (λ (l : List Event). own ++ l) (noted-append a ((q, r) ∷ []) done) ∙ sym (append_assoc own (noted a ((q, r) ∷ [])) (noted a done))))
      ∙ ap (λ (o : Option Recorded). asked_at limits a base ++ recorded_if (is_some o) (q, r) (recorded_of done)) (sym is)
  one_more own base p q r done rest (Some word) is plain go (inr x) y w b e = absurd (cc (is, ap (λ (c : Answer). recorded c) x.0))
  one_more own base p q r done rest (Some word) is plain go (inl x) y w b e =
      let one : noted a ((q, r) ∷ []) ≡ Asks a q word ∷ [] = ap (λ (o : Option Recorded). noted_if o a q []) is in
      let next : List Event = x.at ++ Asks a q word ∷ [] in
      let grown_is : grown x.at a q r ≡ next = ap (λ (o : Option Recorded). entered x.at a q o) is in
      let d : Answer = out (history_at limits x.at) a q in
      let r_is : r ≡ d = x.due_is ∙ told_recorded d word (ap (λ (c : Answer). recorded c) (sym x.due_is) ∙ is) in
      let to : StartsWith later next = subst (λ (l : List Event). StartsWith later l) grown_is x.to in
      let kept : but_settles (mine by a (Asks a q word ∷ [])) ≡ noted a ((q, r) ∷ []) =
      ap (λ (k : Bool). but_settles (cond k (Asks a q word ∷ []) [])) (eq-eqb a a refl) ∙ (ap (λ (k : Bool). cond k [] (Asks a q word ∷ [])) plain ∙ sym one) in
      let own_is : but_settles (mine by a next) ≡ own ++ noted a ((q, r) ∷ []) =
      ap but_settles (mine-append by a x.at (Asks a q word ∷ [])) ∙ (but_settles-append (mine by a x.at) (mine by a (Asks a q word ∷ [])) ∙ (λ i. x.own_is i ++ kept i)) in
      let here : asked_at limits a next ≡ asked_at limits a base ++ (q, r) ∷ [] =
      asks_grow limits a x.at (Asks a q word)
      ∙ (λ i. same_asks limits a x.at base later (starts_both x.at next later (Asks a q word ∷ [], refl) to) w (x.own_is ∙ sym b) i ++ (ap (λ (k : Bool). cond k (ask_of q d) []) (eq-eqb a a refl) ∙ (ask_is q d plain ∙ ap (λ (c : Answer). (q, c) ∷ []) (sym r_is))) i) in
      go (own ++ noted a ((q, r) ∷ [])) next y to own_is
      (e ∙ (ap (λ (l : List Event). own ++ l) (noted-append a ((q, r) ∷ []) done) ∙ sym (append_assoc own (noted a ((q, r) ∷ [])) (noted a done))))
      ∙ (ap (λ (t : Trace). t ++ recorded_of done) here ∙ (append_assoc (asked_at limits a base) ((q, r) ∷ []) (recorded_of done)
      ∙ ap (λ (o : Option Recorded). asked_at limits a base ++ recorded_if (is_some o) (q, r) (recorded_of done)) (sym is)))

  pub so_far : (own base p : List Event) (done rest : Trace) → NeverSettles done → EachAnswered limits a seen later left own (done ++ rest) → StartsWith later base → but_settles (mine by a base) ≡ own → StartsWith later p → but_settles (mine by a p) ≡ own ++ noted a done → HasThen base p done
  so_far own base p [] rest never x w b z e = same_asks limits a p base later z w (e ∙ (append-nil own ∙ sym b)) ∙ sym (append-nil (asked_at limits a base))
  so_far own base p ((q, r) ∷ done) rest never x w b z e =
      one_more own base p q r done rest (recorded r) refl never.0 (λ own₁ base₁ y w₁ b₁ e₁. so_far own₁ base₁ p done rest never.1 y w₁ b₁ z e₁) x.0 x.1 w b e

-- An end of the actor in what was seen later

pub none_there : (e : Event) (before after : List Event) → [] ≡ before ++ e ∷ after → ⊥
none_there e [] after h = cc h
none_there e (d ∷ before) after h = cc h

abbrev pub request_in : Request → Event → Request
request_in other (Asks b q w) = q
request_in other (Loads s u) = other
request_in other (Lists l) = other

abbrev pub word_in : Recorded → Event → Recorded
word_in other (Asks b q w) = w
word_in other (Loads s u) = other
word_in other (Lists l) = other

pub record FoundIn (a : ℕ) (xs : Trace) (m : List Event) (q : Request) (word : Recorded) : Type 0 where
  pub before : Trace
  pub answer : Answer
  pub after : Trace
  pub trace_is : xs ≡ before ++ (q, answer) ∷ after
  pub word_is : recorded answer ≡ Some word
  pub noted_is : noted a before ≡ m

found_by : (a : ℕ) (p : Request) (r : Answer) (xs : Trace) (m rest : List Event) (q : Request) (word : Recorded) (o : Option Recorded) → recorded r ≡ o → ((m : List Event) → noted a xs ≡ m ++ Asks a q word ∷ rest → FoundIn a xs m q word)
    → noted_if o a p (noted a xs) ≡ m ++ Asks a q word ∷ rest → FoundIn a ((p, r) ∷ xs) m q word
found_by a p r xs m rest q word None is go e =
    let f = go m e in
    record { before = (p, r) ∷ f.before; answer = f.answer; after = f.after; trace_is = ap (λ (l : Trace). (p, r) ∷ l) f.trace_is; word_is = f.word_is; noted_is = ap (λ (k : Option Recorded). noted_if k a p (noted a f.before)) is ∙ f.noted_is }
found_by a p r xs [] rest q word (Some w) is go e =
    let one : Asks a p w ≡ Asks a q word = ap (λ (l : List Event). first_or (Asks a p w) l) e in
    record {
      before = [];
      answer = r;
      after = xs;
      trace_is = ap (λ (k : Request). (k, r) ∷ xs) (ap (λ (d : Event). request_in p d) one);
      word_is = is ∙ ap (λ (d : Event). Some (word_in w d)) one;
      noted_is = refl;
    }
found_by a p r xs (d ∷ m) rest q word (Some w) is go e =
    let one : Asks a p w ≡ d = ap (λ (l : List Event). first_or (Asks a p w) l) e in
    let f = go m (ap (λ (l : List Event). rest_of l) e) in
    record {
      before = (p, r) ∷ f.before;
      answer = f.answer;
      after = f.after;
      trace_is = ap (λ (l : Trace). (p, r) ∷ l) f.trace_is;
      word_is = f.word_is;
      noted_is = ap (λ (k : Option Recorded). noted_if k a p (noted a f.before)) is ∙ (λ i. one i ∷ f.noted_is i);
    }

pub found : (a : ℕ) (xs : Trace) (m rest : List Event) (q : Request) (word : Recorded) → noted a xs ≡ m ++ Asks a q word ∷ rest → FoundIn a xs m q word
found a [] m rest q word e = absurd (none_there (Asks a q word) m rest e)
found a ((p, r) ∷ xs) m rest q word e = found_by a p r xs m rest q word (recorded r) refl (λ k f. found a xs k rest q word f) e

-- each pair was answered with just what stands before it
pub each_at : (limits : Limits) (a : ℕ) (seen later : List Event) (left : ℕ) (own : List Event) (before : Trace) (q : Request) (r : Answer) (after : Trace) → EachAnswered limits a seen later left own (before ++ (q, r) ∷ after)
    → IsAnswered limits a seen (own ++ noted a before) later q r ⊎ IsWorn a left r after
each_at limits a seen later left own [] q r after x = subst (λ (o : List Event). IsAnswered limits a seen o later q r ⊎ IsWorn a left r after) (sym (append-nil own)) x.0
each_at limits a seen later left own ((p, s) ∷ before) q r after x =
    subst (λ (o : List Event). IsAnswered limits a seen o later q r ⊎ IsWorn a left r after)
    (append_assoc own (noted a ((p, s) ∷ [])) (noted a before) ∙ ap (λ (l : List Event). own ++ l) (sym (noted-append a ((p, s) ∷ []) before)))
    (each_at limits a seen later left (own ++ noted a ((p, s) ∷ [])) before q r after x.1)
