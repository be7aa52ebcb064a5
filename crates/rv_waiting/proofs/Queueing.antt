-- The queues, as an entry is added.
use Rattle.std.proofs.Common.{◌≡◌, ℕ, ◌-◌, ◌<◌, ◌≤◌, List, [], ◌∷◌, ◌++◌, length, map, drop, get_or, replicate, Some, None, Option, Bool, true, false, cond, arith, ap, subst, sym, ◌∙◌, refl}
use Rattle.std.specs.Prelude.{nat_le, nat_lt, ◌==◌, ◌||◌, not, if◌then◌else◌, slice_get}
use Rattle.std.specs.List.{filter, list_any}
use Rattle.std.proofs.lemmas.Bool.Decides.{nat_tests}
use Rattle.std.proofs.lemmas.List.{length-map, length-replicate, length-set}
use Rattle.std.proofs.lemmas.Option.{slice_get_within}
use Rattle.rv_shape.specs.Shape.{Shape}
use Rattle.rv_shape.specs.Catalogue.{UnitObject, all_objects, place}
use Rattle.rv_shape.specs.Fits.{IsWithin}
use Rattle.rv_event.specs.Past.{joined, last_queued, leaves_some, left, named_in, next_of, queue, queued_by, waiting}
use Rattle.rv_event.specs.Recorded.{recorded}
use Rattle.rv_event.specs.declared.entry.Body.{Body}
use Rattle.rv_event.specs.declared.entry.Entry.{Entry}
use Rattle.rv_event.specs.declared.entry.Entry.TheVariants.{Asked, Load, ListChange}
use Rattle.rv_event.specs.declared.entry.Next.{Next}
use Rattle.rv_event.specs.declared.entry.Next.TheVariants.{Dropped}
use Rattle.rv_event.specs.declared.entry.Recorded.TheVariants.{Started, Queued, Refused, Done, Suspended, Delayed, Woken, Accepted}
use Rattle.rv_event.specs.declared.entry.Request.{Request}
use Rattle.rv_event.specs.declared.entry.Request.TheVariants.{Call}
use Rattle.rv_event.proofs.Unnamed.{filter_append}
use Rattle.rv_history.specs.History.{History}
use Rattle.rv_history.specs.Legal.{Legal}
use Rattle.rv_history.specs.Due.{out}
use Rattle.rv_history.specs.Exclusion.{full_queue}
use Rattle.rv_history.specs.Limits.{is_queue_limit, most_queued}
use Rattle.rv_history.specs.Owed.{actors}
use Rattle.rv_history.specs.Orderly.{Each, IsOfEntry, is_on}
use Rattle.rv_history.proofs.Arrays.{at_set}
use Rattle.rv_history.proofs.Bodies.{each_filter}
use Rattle.rv_history.proofs.Answered.{both, off}
use Rattle.rv_history.proofs.Ending.{head_on, head_waits, names_at}
use Rattle.rv_history.proofs.HandOver.{others_kept}
use Rattle.rv_history.proofs.Loaded.{protected_place}
use Rattle.rv_history.proofs.Orderly.{legal_orderly_at}
use Rattle.rv_history.proofs.Stances.{another, itself, same_number, some_is}
use Rattle.rv_history.proofs.Standing.{legal_standing, queue_served}
use Rattle.rv_history.proofs.Waits.{AllWait, joins}
use Rattle.rv_waiting.proofs.Limits.{entry_within, legal_limit}
use Rattle.rv_waiting.proofs.Arrays.{all_alike}
use Rattle.rv_waiting.specs.Limits.{most_places}
use Rattle.rv_waiting.specs.Queues.{AreQueues, CanJoin, Moves, call_of, callers, joined_by, left_by}

-- at first

pub fresh_long : length (replicate {A = List ℕ} most_places []) ≡ most_places
fresh_long = length-replicate {A = List ℕ} most_places []

pub fresh_are : AreQueues [] (replicate most_places [])
fresh_are o = all_alike most_places [] o

-- the callers of a list of calls, object by object

abbrev pub AreCallers : List Body → List (List ℕ) → Type 0
AreCallers calls queues = (o : ℕ) → get_or queues o [] ≡ map (λ call. call.actor) (filter (is_on o) calls)

-- One call leaves

-- whom an end or a settle names: its call is the first on its object, and the others there stay
record Served (shapes : List Shape) (past : List Entry) (n : ℕ) : Type 0 where
  call : Body
  its : call.actor ≡ n
  last : last_queued n past ≡ Some call
  rest : List Body
  first : queue call.object past ≡ call ∷ rest
  gone : filter (is_on call.object) (left (Some n) (waiting past)) ≡ rest
  known : call.object < most_places
  low : n < actors shapes
  all : AllWait shapes past (waiting past)

one_gone : (shapes : List Shape) (past : List Entry) (n : ℕ) (queues : List (List ℕ)) (s : Served shapes past n) → s.call.object < length queues → AreCallers (waiting past) queues →
    AreCallers (left (Some n) (waiting past)) (left_by (Some s.call) queues)
one_gone shapes past n queues s some are =
    at_set queues on (drop 1 (get_or queues on [])) [] (λ o cs. cs ≡ map (λ call. call.actor) (filter (is_on o) others)) some
    (ap (drop 1) (are on) ∙ ap (λ (cs : List Body). drop 1 (map (λ call. call.actor) cs)) s.first ∙ sym (ap (map (λ (call : Body). call.actor)) s.gone))
    (λ o other. are o ∙ ap (map (λ (call : Body). call.actor)) (sym (others_kept shapes past n o s.call (waiting past) s.all s.last (another on o other))))
  where
    on : ℕ
    on = s.call.object

    others : List Body
    others = filter (λ d. not (d.actor == n)) (waiting past)

-- whether somebody else waits on an object is whether somebody does once the actor's calls are gone
others_any : (o n line : ℕ) (calls : List Body) → list_any (λ caller. not (caller == n)) (map (λ call. call.actor) (filter (is_on o) calls)) ≡ leaves_some (Dropped n line) (filter (is_on o) (filter (λ d. not (d.actor == n)) calls))
others_any o n line [] = refl
others_any o n line (c ∷ cs) = by_tests (is_on o c) (c.actor == n) refl refl (others_any o n line cs)
  where
    others : List Body
    others = filter (λ d. not (d.actor == n)) cs

    by_tests : (t u : Bool) → is_on o c ≡ t → (c.actor == n) ≡ u →
        list_any (λ caller. not (caller == n)) (map (λ call. call.actor) (filter (is_on o) cs)) ≡ leaves_some (Dropped n line) (filter (is_on o) others) →
        list_any (λ caller. not (caller == n)) (map (λ call. call.actor) (cond t (c ∷ filter (is_on o) cs) (filter (is_on o) cs))) ≡ leaves_some (Dropped n line) (filter (is_on o) (cond (not u) (c ∷ others) others))
    by_tests true true is own rest = ap (λ u. not u || list_any (λ caller. not (caller == n)) (map (λ call. call.actor) (filter (is_on o) cs))) own ∙ rest
    by_tests true false is other rest =
        ap (λ u. not u || list_any (λ caller. not (caller == n)) (map (λ call. call.actor) (filter (is_on o) cs))) other
        ∙ sym (ap (λ t. leaves_some (Dropped n line) (cond t (c ∷ filter (is_on o) others) (filter (is_on o) others))) is)
    by_tests false true is own rest = rest
    by_tests false false is other rest = rest ∙ sym (ap (λ t. leaves_some (Dropped n line) (cond t (c ∷ filter (is_on o) others) (filter (is_on o) others))) is)

-- an entry that drops a caller queues none
drops_joins_none : (e : Entry) (n line : ℕ) → next_of e ≡ Dropped n line → queued_by e ≡ None
drops_joins_none (Asked a r (Done next)) n line e = none_by r
  where
    none_by : (r : Request) → queued_by (Asked a r (Done next)) ≡ None
    none_by (Call o p vs) = refl
    none_by r = refl
drops_joins_none (Asked a r Started) n line e = absurd (cc)
drops_joins_none (Asked a r Queued) n line e = absurd (cc)
drops_joins_none (Asked a r (Refused rule l version)) n line e = absurd (cc)
drops_joins_none (Asked a r Suspended) n line e = absurd (cc)
drops_joins_none (Asked a r Delayed) n line e = absurd (cc)
drops_joins_none (Asked a r Woken) n line e = absurd (cc)
drops_joins_none (Asked a r (Accepted value)) n line e = absurd (cc)
drops_joins_none Load n line e = absurd (cc)
drops_joins_none ListChange n line e = absurd (cc)

pub waits_behind : (past : List Entry) (queues : List (List ℕ)) (o n line : ℕ) (e : Entry) → AreQueues past queues → next_of e ≡ Dropped n line →
    list_any (λ caller. not (caller == n)) (get_or queues o []) ≡ leaves_some (next_of e) (queue o (e ∷ past))
waits_behind past queues o n line e are drops =
    ap (list_any (λ caller. not (caller == n))) (are o) ∙ others_any o n line (waiting past)
    ∙ sym (λ i. leaves_some (drops i) (filter (is_on o) (joined (drops_joins_none e n line drops i) (left (named_in (drops i)) (waiting past)))))

-- One call joins

map_more : (calls : List Body) (c : Body) → map (λ call. call.actor) (calls ++ c ∷ []) ≡ map (λ call. call.actor) calls ++ c.actor ∷ []
map_more [] c = refl
map_more (d ∷ calls) c = ap (λ ns. d.actor ∷ ns) (map_more calls c)

append_nothing : (calls : List Body) → calls ++ [] ≡ calls
append_nothing [] = refl
append_nothing (d ∷ calls) = ap (λ ds. d ∷ ds) (append_nothing calls)

one_more : (calls : List Body) (queues : List (List ℕ)) (c : Body) → c.object < length queues → AreCallers calls queues → AreCallers (calls ++ c ∷ []) (joined_by (Some c) queues)
one_more calls queues c some are =
    at_set queues c.object (get_or queues c.object [] ++ c.actor ∷ []) [] (λ o cs. cs ≡ map (λ call. call.actor) (filter (is_on o) (calls ++ c ∷ []))) some
    (ap (λ ns. ns ++ c.actor ∷ []) (are c.object) ∙ sym (ap (map (λ (call : Body). call.actor)) (split c.object true (itself c.object)) ∙ map_more (filter (is_on c.object) calls) c))
    (λ o other. are o ∙ sym (ap (map (λ (call : Body). call.actor)) (split o false (another c.object o other) ∙ append_nothing (filter (is_on o) calls))))
  where
    split : (o : ℕ) (t : Bool) → (c.object == o) ≡ t → filter (is_on o) (calls ++ c ∷ []) ≡ filter (is_on o) calls ++ cond t (c ∷ []) []
    split o t is = filter_append (is_on o) calls (c ∷ []) ∙ ap (λ u. filter (is_on o) calls ++ cond u (c ∷ []) []) is

-- On a legal history

pub within_objects : (shapes : List Shape) (o : ℕ) (p : UnitObject) → IsWithin shapes → place shapes o ≡ Some p → o < most_places
within_objects shapes o p few e = by_test (nat_lt o 1) refl e
  where
    by_test : (t : Bool) → nat_lt o 1 ≡ t → (if t then None else slice_get (all_objects shapes) (o - 1)) ≡ Some p → o < most_places
    by_test true is f = absurd (cc)
    by_test false is f =
        let some : 0 < o = grind (arith, nat_tests) in
        omega (arith, some, slice_get_within (all_objects shapes) (o - 1) p f, few.objects)

served : (h : History) (a : ℕ) (r : Request) (next : Next) (n : ℕ) → Legal h → IsWithin h.shapes → recorded (out h a r) ≡ Some (Done next) → named_in next ≡ Some n → Served h.shapes h.past n
served h a r next n l few e f =
    let m = names_at h a r next n e f in
    let q = m.served_by in
    let stands = legal_standing h.limits h.past h.shapes h.lists l in
    let v = head_waits h.shapes h.past m.body.object q.call q.rest stands.wait q.queued in
    let there : q.call.object ≡ m.body.object = same_number q.call.object m.body.object (head_on h.past m.body.object q.call q.rest q.queued) in
    let of_entry : IsOfEntry h.shapes q.call = (subst (Each (IsOfEntry h.shapes)) q.queued (each_filter (IsOfEntry h.shapes) (λ c. c.object == m.body.object) (waiting h.past) (legal_orderly_at h l).calls)).0 in
    let at = protected_place h.shapes q.call.object q.call.operation of_entry.0 of_entry.1 in
    record {
      call = q.call;
      its = q.is_its;
      last = ap (λ j. last_queued j h.past) (sym q.is_its) ∙ v.last;
      rest = q.rest;
      first = ap (λ o. queue o h.past) there ∙ q.queued;
      gone =
          ap (λ j. filter (is_on q.call.object) (left (Some j) (waiting h.past))) (sym q.is_its)
          ∙ queue_served h.shapes h.past q.call.object q.call q.rest stands (ap (λ o. queue o h.past) there ∙ q.queued);
      known = within_objects h.shapes q.call.object at.0 few at.1;
      low = subst (λ j. j < actors h.shapes) q.is_its v.known;
      all = stands.wait;
    }

named_served : (h : History) (e : Entry) (n : ℕ) → Legal (record h { past = e ∷ h.past }) → IsWithin h.shapes → named_in (next_of e) ≡ Some n → Served h.shapes h.past n
named_served h (Asked a r (Done next)) n l few is = served (record { limits = h.limits; past = h.past; shapes = h.shapes; lists = h.lists }) a r next n l.0 few l.1 is
named_served h (Asked a r Started) n l few is = absurd (cc)
named_served h (Asked a r Queued) n l few is = absurd (cc)
named_served h (Asked a r (Refused rule line version)) n l few is = absurd (cc)
named_served h (Asked a r Suspended) n l few is = absurd (cc)
named_served h (Asked a r Delayed) n l few is = absurd (cc)
named_served h (Asked a r Woken) n l few is = absurd (cc)
named_served h (Asked a r (Accepted value)) n l few is = absurd (cc)
named_served h Load n l few is = absurd (cc)
named_served h ListChange n l few is = absurd (cc)

pub named_low : (h : History) (e : Entry) (n : ℕ) → Legal (record h { past = e ∷ h.past }) → IsWithin h.shapes → named_in (next_of e) ≡ Some n → n < actors h.shapes
named_low h e n l few is = (named_served h e n l few is).low

-- the call of whom an entry names has a queue
pub may_leave : (h : History) (e : Entry) (named : Option Body) (queues : List (List ℕ)) (c : Body) → Moves h e named queues → named ≡ Some c → c.object < most_places
may_leave h e named queues c m is = by_name (named_in (next_of e)) refl (sym m.named_is ∙ is)
  where
    by_name : (q : Option ℕ) → named_in (next_of e) ≡ q → call_of q h.past ≡ Some c → c.object < most_places
    by_name None at f = absurd (cc)
    by_name (Some n) at f =
        let s = named_served h e n m.legal (entry_within h e m.legal) at in
        subst (λ (d : Body). d.object < most_places) (some_is s.call c (sym s.last ∙ f)) s.known

-- a call that an entry queues finds a queue that isn't full, and the entry names nobody
record Queues (h : History) (e : Entry) (c : Body) : Type 0 where
  known : c.object < most_places
  short : length (queue c.object h.past) < most_queued
  nobody : named_in (next_of e) ≡ None

not_full : (n limit : ℕ) → is_queue_limit limit ≡ true → not (nat_lt n limit) ≡ false → n < most_queued
not_full n limit few e = by_test (nat_lt n limit) refl e
  where
    most : limit ≤ most_queued
    most = grind (arith, nat_tests, (both (nat_le 1 limit) (nat_le limit most_queued) few).1)

    by_test : (t : Bool) → nat_lt n limit ≡ t → not t ≡ false → n < most_queued
    by_test true is f =
        let less : n < limit = grind (arith, nat_tests) in
        omega (arith, less, most)
    by_test false is f = absurd (off (sym f))

queues_at : (h : History) (e : Entry) (c : Body) → Legal (record h { past = e ∷ h.past }) → IsWithin h.shapes → queued_by e ≡ Some c → Queues h e c
queues_at h (Asked a (Call o p vs) Queued) c l few is =
    let j = joins (record { limits = h.limits; past = h.past; shapes = h.shapes; lists = h.lists }) a o p vs l.1 in
    let there : o ≡ c.object = ap (λ (b : Body). b.object) (some_is (record { actor = a; object = o; operation = p }) c is) in
    let at = protected_place h.shapes o p j.site j.at in
    record {
      known = subst (λ m. m < most_places) there (within_objects h.shapes o at.0 few at.1);
      short = not_full (length (queue c.object h.past)) h.limits.queue (legal_limit h.limits h.past h.shapes h.lists l.0) (ap (λ m. full_queue h m) (sym there) ∙ j.short);
      nobody = refl;
    }
queues_at h (Asked a (Call o p vs) w) c l few is = absurd (cc)
queues_at h (Asked a r w) c l few is = absurd (cc)
queues_at h Load c l few is = absurd (cc)
queues_at h ListChange c l few is = absurd (cc)

same_length : (named : Option Body) (queues : List (List ℕ)) → length (left_by named queues) ≡ length queues
same_length None queues = refl
same_length (Some c) queues = length-set queues c.object (drop 1 (get_or queues c.object []))

pub may_join : (h : History) (e : Entry) (named : Option Body) (queues : List (List ℕ)) (c : Body) → length queues ≡ most_places → Moves h e named queues → queued_by e ≡ Some c → CanJoin c (left_by named queues)
may_join h e named queues c long m is =
    let q = queues_at h e c m.legal (entry_within h e m.legal) is in
    let none : named ≡ None = m.named_is ∙ ap (λ n. call_of n h.past) q.nobody in
    let count : length (get_or queues c.object []) ≡ length (queue c.object h.past) =
    ap (λ (ns : List ℕ). length ns) (m.queues_are c.object) ∙ length-map (queue c.object h.past) (λ (call : Body). call.actor) in
    let short : length (get_or queues c.object []) < most_queued = omega (arith, count, q.short) in
    (q.known, subst (λ k. length (get_or (left_by k queues) c.object []) < most_queued) (sym none) short)

pub moved : (h : History) (e : Entry) (named : Option Body) (queues : List (List ℕ)) → length queues ≡ most_places → Moves h e named queues → AreQueues (e ∷ h.past) (joined_by (queued_by e) (left_by named queues))
moved h e named queues long m = then_joins (queued_by e) refl
  where
    leaves : (q : Option ℕ) → named_in (next_of e) ≡ q → AreCallers (left q (waiting h.past)) (left_by (call_of q h.past) queues)
    leaves None is = m.queues_are
    leaves (Some n) is =
        let s = named_served h e n m.legal (entry_within h e m.legal) is in
        subst (λ k. AreCallers (left (Some n) (waiting h.past)) (left_by k queues)) (sym s.last) (one_gone h.shapes h.past n queues s (omega (arith, long, s.known)) m.queues_are)

    left_now : AreCallers (left (named_in (next_of e)) (waiting h.past)) (left_by named queues)
    left_now = subst (λ k. AreCallers (left (named_in (next_of e)) (waiting h.past)) (left_by k queues)) (sym m.named_is) (leaves (named_in (next_of e)) refl)

    then_joins : (q : Option Body) → queued_by e ≡ q → AreCallers (joined q (left (named_in (next_of e)) (waiting h.past))) (joined_by q (left_by named queues))
    then_joins None is = left_now
    then_joins (Some c) is =
        let known : c.object < length (left_by named queues) = omega (arith, long, same_length named queues, (queues_at h e c m.legal (entry_within h e m.legal) is).known) in
        one_more (left (named_in (next_of e)) (waiting h.past)) (left_by named queues) c known left_now

-- as many callers as the limit
pub is_full : (h : History) (o n limit : ℕ) (queues : List (List ℕ)) → h.limits.queue ≡ limit → AreQueues h.past queues → n ≡ length (get_or queues o []) → not (nat_lt n limit) ≡ full_queue h o
is_full h o n limit queues bound are is =
    let count : n ≡ length (queue o h.past) = is ∙ ap (λ (ns : List ℕ). length ns) (are o) ∙ length-map (queue o h.past) (λ (call : Body). call.actor) in
    λ i. not (nat_lt (count i) (sym bound i))

-- the call at the head of a queue is the last queued one of its caller
pub head_call : (h : History) (o : ℕ) → Legal h → slice_get (queue o h.past) 0 ≡ call_of (slice_get (callers o h.past) 0) h.past
head_call h o l = by_queue (queue o h.past) refl
  where
    by_queue : (q : List Body) → queue o h.past ≡ q → slice_get q 0 ≡ call_of (slice_get (map (λ call. call.actor) q) 0) h.past
    by_queue [] is = refl
    by_queue (c ∷ cs) is = sym (head_waits h.shapes h.past o c cs (legal_standing h.limits h.past h.shapes h.lists l).wait is).last
