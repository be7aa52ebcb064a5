-- What an end or a settle is answered, and whom it names: the head of the queue that it serves.
use Rattle.std.proofs.Common.{◌≡◌, ℕ, List, [], ◌∷◌, Some, None, Option, Bool, true, false, ap, subst, sym, ◌∙◌, refl, cond}
use Rattle.std.specs.Prelude.{ℤ, ◌==◌, if◌then◌else◌}
use Rattle.std.specs.List.{filter}
use Rattle.rv_shape.specs.Shape.{Shape}
use Rattle.rv_event.specs.Recorded.{recorded}
use Rattle.rv_shape.specs.Catalogue.{Site, Target, Nowhere, OnProtected, OnSuspension, place, target, is_function, shares}
use Rattle.rv_event.specs.Past.{innermost, to_settle, scalars, halted, queue, waiting, named_in}
use Rattle.rv_event.specs.declared.entry.Body.{Body}
use Rattle.rv_event.specs.declared.entry.Entry.{Entry}
use Rattle.rv_event.specs.declared.entry.Exit.{Exit}
use Rattle.rv_event.specs.declared.entry.Next.{Next}
use Rattle.rv_event.specs.declared.entry.Next.TheVariants.{Nothing}
use Rattle.rv_event.specs.declared.entry.Request.{Request}
use Rattle.rv_event.specs.declared.entry.Request.TheVariants.{Complete, Settle}
use Rattle.rv_event.specs.declared.entry.Recorded.{Recorded}
use Rattle.rv_event.specs.declared.entry.Recorded.TheVariants.{Done}
use Rattle.rv_history.specs.History.{History}
use Rattle.rv_history.specs.Subject.{subject}
use Rattle.rv_history.specs.Exclusion.{barrier_at, opens_on}
use Rattle.rv_history.specs.Rules.{granted, decided}
use Rattle.rv_history.specs.Due.{out, due_end, due_settle, end_of, after_end, next_of_queue, judged_head}
use Rattle.rv_history.specs.HandOver.{ends_shared, served, served_with, serves}
use Rattle.rv_history.specs.Orderly.{IsProtected}
use Rattle.rv_history.proofs.Answered.{answered, off, word_is}
use Rattle.rv_history.proofs.Bodies.{filter_first}
use Rattle.rv_history.proofs.Done.{done_serves}
use Rattle.rv_history.proofs.Stances.{some_is}
use Rattle.rv_history.proofs.Waits.{Waits, AllWait}

-- what an end is answered
pub record Ends (h : History) (a : ℕ) (vs : List ℤ) (w : Recorded) : Type 0 where
  pub body : Body
  pub site : Site
  pub inner : innermost h.shapes a h.past ≡ Some body
  pub at : target h.shapes body.object body.operation ≡ OnProtected site
  pub word : w ≡ Done (if is_function site.operation.kind then Nothing else after_end h body.object vs)

ends_at : (h : History) (a : ℕ) (vs : List ℤ) (w : Recorded) (b : Option Body) → innermost h.shapes a h.past ≡ b → recorded (due_end h vs b) ≡ Some w → Ends h a vs w
ends_at h a vs w None is e = absurd (cc)
ends_at h a vs w (Some b) is e = by_target (target h.shapes b.object b.operation) refl e
  where
    by_target : (t : Target) → target h.shapes b.object b.operation ≡ t → recorded (end_of h vs b.object t) ≡ Some w → Ends h a vs w
    by_target Nowhere at f = absurd (cc)
    by_target (OnSuspension unit name wanted) at f = absurd (cc)
    by_target (OnProtected s) at f = record { body = b; site = s; inner = is; at = at; word = sym (word_is _ w f) }

pub ends : (h : History) (a : ℕ) (vs : List ℤ) (x : Exit) (w : Recorded) → recorded (out h a (Complete vs x)) ≡ Some w → Ends h a vs w
ends h a vs x w e = ends_at h a vs w (innermost h.shapes a h.past) refl (answered h a (Complete vs x) w e).said

-- what a settle is answered
pub record Settling (h : History) (a : ℕ) (w : Recorded) : Type 0 where
  pub body : Body
  pub first : to_settle h.shapes a h.past ≡ Some body
  pub word : w ≡ Done (after_end h body.object (scalars h.shapes body.object h.past))

settling_at : (h : History) (a : ℕ) (w : Recorded) (b : Option Body) → to_settle h.shapes a h.past ≡ b → recorded (due_settle h b) ≡ Some w → Settling h a w
settling_at h a w None is e = absurd (cc)
settling_at h a w (Some b) is e = record { body = b; first = is; word = sym (word_is _ w e) }

pub settling : (h : History) (a : ℕ) (w : Recorded) → recorded (out h a Settle) ≡ Some w → Settling h a w
settling h a w e = settling_at h a w (to_settle h.shapes a h.past) refl (answered h a Settle w e).said

-- whom it names
pub record Serves (h : History) (o : ℕ) (vs : List ℤ) (next : Next) (n : ℕ) : Type 0 where
  pub going : halted h.past ≡ false
  pub opened : opens_on (barrier_at (place h.shapes o)) vs ≡ true
  pub call : Body
  pub rest : List Body
  pub queued : queue o h.past ≡ call ∷ rest
  pub is_its : call.actor ≡ n
  pub head : next ≡ judged_head (granted h (subject h call.actor) (target h.shapes call.object call.operation))
      (decided h (subject h call.actor) (target h.shapes call.object call.operation)) call.actor

number_in : ℕ → Option ℕ → ℕ
number_in m None = m
number_in m (Some n) = n

pub some_number : (m n : ℕ) → (let q : Option ℕ = Some m in q ≡ Some n) → m ≡ n
unfolding number_in
some_number m n e = ap (number_in m) e

head_actor : (b : Bool) (line m n : ℕ) → named_in (judged_head b line m) ≡ Some n → m ≡ n
head_actor true line m n e = some_number m n e
head_actor false line m n e = some_number m n e

none_named : (next : Next) (n : ℕ) → Nothing ≡ next → named_in next ≡ Some n → ⊥
none_named next n e f =
    let none : None ≡ Some n = ap named_in e ∙ f in
    cc

pub serves_named : (h : History) (o : ℕ) (vs : List ℤ) (next : Next) (n : ℕ) → after_end h o vs ≡ next → named_in next ≡ Some n → Serves h o vs next n
serves_named h o vs next n e f = by_tests (halted h.past) (opens_on (barrier_at (place h.shapes o)) vs) refl refl e
  where
    by_queue : (q : List Body) → halted h.past ≡ false → opens_on (barrier_at (place h.shapes o)) vs ≡ true → queue o h.past ≡ q → next_of_queue h q ≡ next → Serves h o vs next n
    by_queue [] going opened is g = absurd (none_named next n g f)
    by_queue (c ∷ cs) going opened is g = record {
      going = going;
      opened = opened;
      call = c;
      rest = cs;
      queued = is;
      is_its = head_actor _ _ c.actor n (ap named_in g ∙ f);
      head = sym g;
    }

    by_tests : (b c : Bool) → halted h.past ≡ b → opens_on (barrier_at (place h.shapes o)) vs ≡ c → (if b then Nothing else (if c then next_of_queue h (queue o h.past) else Nothing)) ≡ next → Serves h o vs next n
    by_tests true c going opened g = absurd (none_named next n g f)
    by_tests false false going opened g = absurd (none_named next n g f)
    by_tests false true going opened g = by_queue (queue o h.past) going opened refl g

-- an end that names one is of an exclusive body
pub record Names (h : History) (a : ℕ) (r : Request) (next : Next) (n : ℕ) : Type 0 where
  pub body : Body
  pub serving : served h.shapes a h.past r ≡ Some body
  pub exclusive : ends_shared h.shapes r body ≡ false
  pub served_by : Serves h body.object (served_with h.shapes h.past r body.object) next n

next_in : Recorded → Next
next_in (Done next) = next
next_in w = Nothing

end_names : (h : History) (a : ℕ) (vs : List ℤ) (x : Exit) (next : Next) (n : ℕ) → recorded (out h a (Complete vs x)) ≡ Some (Done next) → named_in next ≡ Some n → Names h a (Complete vs x) next n
unfolding next_in
end_names h a vs x next n e f =
    let t = ends h a vs x (Done next) e in
    by_kind t (is_function t.site.operation.kind) refl (sym (ap next_in t.word))
  where
    by_kind : (t : Ends h a vs (Done next)) (b : Bool) → is_function t.site.operation.kind ≡ b → (if b then Nothing else after_end h t.body.object vs) ≡ next → Names h a (Complete vs x) next n
    by_kind t true is g = absurd (none_named next n g f)
    by_kind t false is g = record { body = t.body; serving = t.inner; exclusive = ap shares t.at ∙ is; served_by = serves_named h t.body.object vs next n g f }

settle_names : (h : History) (a : ℕ) (next : Next) (n : ℕ) → recorded (out h a Settle) ≡ Some (Done next) → named_in next ≡ Some n → Names h a Settle next n
unfolding next_in
settle_names h a next n e f =
    let t = settling h a (Done next) e in
    let values : List ℤ = scalars h.shapes t.body.object h.past in
    record { body = t.body; serving = t.first; exclusive = refl; served_by = serves_named h t.body.object values next n (sym (ap next_in t.word)) f }

pub names_at : (h : History) (a : ℕ) (r : Request) (next : Next) (n : ℕ) → recorded (out h a r) ≡ Some (Done next) → named_in next ≡ Some n → Names h a r next n
names_at h a r next n e f = by_request r (done_serves h a r next e) e
  where
    by_request : (r : Request) → serves r ≡ true → recorded (out h a r) ≡ Some (Done next) → Names h a r next n
    by_request (Complete vs x) is e = end_names h a vs x next n e f
    by_request Settle is e = settle_names h a next n e f
    by_request r is e = absurd (off is)

-- the body that an end ends is of a protected operation that there is
pub end_site : (h : History) (a : ℕ) (vs : List ℤ) (x : Exit) (w : Recorded) (b : Body) → recorded (out h a (Complete vs x)) ≡ Some w → innermost h.shapes a h.past ≡ Some b → IsProtected h.shapes b
end_site h a vs x w b e inner =
    let t = ends h a vs x w e in
    subst (IsProtected h.shapes) (some_is t.body b (sym t.inner ∙ inner)) (t.site, t.at)

-- those in one queue
pub filter_wait : (shapes : List Shape) (past : List Entry) (p : Body → Bool) (calls : List Body) → AllWait shapes past calls → AllWait shapes past (filter p calls)
filter_wait shapes past p [] all = tt
filter_wait shapes past p (c ∷ cs) all = by_test (p c) all.0 (filter_wait shapes past p cs all.1)
  where
    by_test : (b : Bool) → Waits shapes past c → AllWait shapes past (filter p cs) → AllWait shapes past (cond b (c ∷ filter p cs) (filter p cs))
    by_test true one rest = (one, rest)
    by_test false one rest = rest

pub head_waits : (shapes : List Shape) (past : List Entry) (o : ℕ) (c : Body) (cs : List Body) → AllWait shapes past (waiting past) → queue o past ≡ c ∷ cs → Waits shapes past c
head_waits shapes past o c cs all is = (subst (AllWait shapes past) is (filter_wait shapes past (λ call. call.object == o) (waiting past) all)).0

pub head_on : (past : List Entry) (o : ℕ) (c : Body) (cs : List Body) → queue o past ≡ c ∷ cs → (c.object == o) ≡ true
head_on past o c cs is = filter_first (λ call. call.object == o) (waiting past) c cs is
