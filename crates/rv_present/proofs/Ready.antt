-- The next entry of a legal history speaks of actors that there are, and what it starts may start.
use Rattle.std.proofs.Common.{◌≡◌, ℕ, ◌+◌, ◌-◌, ◌^◌, ◌<◌, ◌≤◌, List, [], ◌∷◌, length, Some, None, Option, Bool, true, false, cond, arith, ap, subst, sym, ◌∙◌, refl}
use Rattle.std.specs.Prelude.{nat_lt, if◌then◌else◌, slice_get}
use Rattle.std.specs.List.{filter}
use Rattle.std.proofs.lemmas.Bool.Decides.{nat_tests}
use Rattle.std.proofs.lemmas.Option.{slice_get_within}
use Rattle.rv_access.specs.Words.{Words}
use Rattle.rv_shape.specs.Shape.{Shape}
use Rattle.rv_shape.specs.Catalogue.{OperationNumber, UnitObject, all_objects, place, handler}
use Rattle.rv_event.specs.Recorded.{recorded}
use Rattle.rv_event.specs.Past.{begun, closed, ended, fired, named_in, next_of, started, under_way, unsettled}
use Rattle.rv_event.specs.declared.entry.Body.{Body}
use Rattle.rv_event.specs.declared.entry.Next.{Next}
use Rattle.rv_event.specs.declared.entry.Next.TheVariants.{Nothing, HandedTo, Dropped}
use Rattle.rv_event.specs.declared.entry.Entry.{Entry}
use Rattle.rv_event.specs.declared.entry.Entry.TheVariants.{Asked, Load, ListChange}
use Rattle.rv_event.specs.declared.entry.Request.{Request}
use Rattle.rv_event.specs.declared.entry.Request.TheVariants.{Call, Complete, Settle, Fire}
use Rattle.rv_event.specs.declared.entry.Recorded.{Recorded}
use Rattle.rv_event.specs.declared.entry.Recorded.TheVariants.{Started, Queued, Refused, Done, Suspended, Delayed, Woken, Accepted}
use Rattle.rv_event.proofs.Matching.{by}
use Rattle.rv_history.specs.declared.limits.Limits.{Limits}
use Rattle.rv_history.specs.History.{History, changes}
use Rattle.rv_history.specs.Owed.{actors}
use Rattle.rv_history.specs.Due.{out}
use Rattle.rv_history.specs.Legal.{IsLegal, Legal}
use Rattle.rv_history.specs.Orderly.{Orderly, Each, IsProtected, IsShared}
use Rattle.rv_history.proofs.Answered.{answered}
use Rattle.rv_history.proofs.Ending.{names_at, head_waits}
use Rattle.rv_history.proofs.Loaded.{left_stays, protected_place}
use Rattle.rv_history.proofs.Orderly.{legal_orderly_at}
use Rattle.rv_history.proofs.Archived.{few_archived}
use Rattle.rv_history.proofs.Room.{few_entries, legal_solvent}
use Rattle.rv_history.proofs.Stances.{below, itself, last_actor, some_is}
use Rattle.rv_history.proofs.Standing.{legal_waits}
use Rattle.rv_present.specs.Bodies.{CanStart}
use Rattle.rv_present.specs.Known.{AreBelow, IsNamedBelow}
use Rattle.rv_present.specs.Present.{IsNext}
use Rattle.rv_present.specs.declared.present.Change.{Change}
use Rattle.rv_present.specs.declared.present.Present.{Present}
use Rattle.rv_present.proofs.Starting.{starts_free}

-- whom an end or a settle names
named_known : (h : History) (a : ℕ) (r : Request) (next : Next) (n : ℕ) → Legal h → recorded (out h a r) ≡ Some (Done next) → named_in next ≡ Some n → n < actors h.shapes
named_known h a r next n l e is =
    let m = names_at h a r next n e is in
    let v = head_waits h.shapes h.past m.body.object m.served_by.call m.served_by.rest (legal_waits h.limits h.past h.shapes h.lists l) m.served_by.queued in
    subst (λ k. k < actors h.shapes) m.served_by.is_its v.known

done_known : (h : History) (a : ℕ) (r : Request) (next : Next) → Legal h → recorded (out h a r) ≡ Some (Done next) → IsNamedBelow (actors h.shapes) next
done_known h a r Nothing l e = tt
done_known h a r (HandedTo n) l e = named_known h a r (HandedTo n) n l e refl
done_known h a r (Dropped n line) l e = named_known h a r (Dropped n line) n l e refl

step_known : (h : History) (a : ℕ) (r : Request) (w : Recorded) → Legal h → recorded (out h a r) ≡ Some w → AreBelow (actors h.shapes) (Asked a r w)
step_known h a r w l e = (below a (actors h.shapes) (answered h a r w e).known, by_word w e)
  where
    by_word : (w : Recorded) → recorded (out h a r) ≡ Some w → IsNamedBelow (actors h.shapes) (next_of (Asked a r w))
    by_word (Done next) e = done_known h a r next l e
    by_word Started e = tt
    by_word Queued e = tt
    by_word (Refused rule line version) e = tt
    by_word Suspended e = tt
    by_word Delayed e = tt
    by_word Woken e = tt
    by_word (Accepted value) e = tt

-- all of whom it speaks
entry_known : (c : Limits) (past : List Entry) (shapes : List Shape) (lists : List (List Words)) (e : Entry) → IsLegal c (e ∷ past) shapes lists → AreBelow (actors shapes) e
entry_known c past shapes lists (Asked a r w) l = step_known (record { limits = c; past = past; shapes = shapes; lists = lists }) a r w l.0 l.1
entry_known c past shapes lists Load l = tt
entry_known c past shapes lists ListChange l = tt

more_known : (n m : ℕ) (next : Next) → n ≤ m → IsNamedBelow n next → IsNamedBelow m next
more_known n m Nothing less k = tt
more_known n m (HandedTo a) less k = omega (arith, less, k)
more_known n m (Dropped a line) less k = omega (arith, less, k)

pub known_below : (c : Limits) (past : List Entry) (shapes : List Shape) (lists : List (List Words)) (e : Entry) (m : ℕ) → IsLegal c (e ∷ past) shapes lists → actors shapes ≤ m → AreBelow m e
known_below c past shapes lists e m l few = by_entry e (entry_known c past shapes lists e l)
  where
    by_entry : (e : Entry) → AreBelow (actors shapes) e → AreBelow m e
    by_entry (Asked a r w) k = (omega (arith, few, k.0), more_known (actors shapes) m (next_of (Asked a r w)) few k.1)
    by_entry Load k = tt
    by_entry ListChange k = tt

-- who starts
starter_known : (shapes : List Shape) (past : List Entry) (e : Entry) (b : Body) (n : ℕ) → started shapes past e ≡ Some b → AreBelow n e → b.actor < n
starter_known shapes past (Asked a (Call o p vs) Started) b n e k =
    subst (λ m. m < n) (ap (λ (c : Body). c.actor) (some_is (record { actor = a; object = o; operation = p }) b e)) k.0
starter_known shapes past (Asked a Fire Started) b n e k = by_handler (handler shapes (a - 1)) e
  where
    by_handler : (s : Option OperationNumber) → fired a s ≡ Some b → b.actor < n
    by_handler None f = absurd (cc)
    by_handler (Some s) f = subst (λ m. m < n) (ap (λ (c : Body). c.actor) (some_is (record { actor = a; object = s.object; operation = s.operation }) b f)) k.0
starter_known shapes past (Asked a (Complete vs x) (Done (HandedTo m))) b n e k = subst (λ i. i < n) (sym (last_actor m past b e)) k.1
starter_known shapes past (Asked a Settle (Done (HandedTo m))) b n e k = subst (λ i. i < n) (sym (last_actor m past b e)) k.1
starter_known shapes past e b n is k = absurd (cc)

-- where an object stands
pub within_objects : (shapes : List Shape) (o : ℕ) (p : UnitObject) → place shapes o ≡ Some p → o ≤ length (all_objects shapes)
within_objects shapes o p e = by_test (nat_lt o 1) refl e
  where
    by_test : (t : Bool) → nat_lt o 1 ≡ t → (if t then None else slice_get (all_objects shapes) (o - 1)) ≡ Some p → o ≤ length (all_objects shapes)
    by_test true is f = absurd (cc)
    by_test false is f =
        let some : 0 < o = grind (arith, nat_tests) in
        omega (arith, some, slice_get_within (all_objects shapes) (o - 1) p f)

-- how much there is: bodies, entries, list changes
pub record AreFew (c : Limits) (past : List Entry) (shapes : List Shape) : Type 0 where
  pub bodies : length (under_way shapes past) + length (unsettled shapes past) ≤ c.capacity
  pub entries : length past < 10 ^ 12

pub few_bodies : (c : Limits) (past : List Entry) (shapes : List Shape) (lists : List (List Words)) → IsLegal c past shapes lists → 1 ≤ c.capacity → c.capacity ≤ 2 ^ 20 → AreFew c past shapes
few_bodies c past shapes lists l some most =
    let h : History = record { limits = c; past = past; shapes = shapes; lists = lists } in
    let room = legal_solvent h some l in
    let given_up = few_archived h l in
    record {
      bodies = omega (arith, room, given_up);
      entries = few_entries h some most l;
    }

-- what an orderly history starts could start
may_start : (c : Limits) (shapes : List Shape) (past : List Entry) (e : Entry) (b : Body) (n m : ℕ) → Orderly c shapes (e ∷ past) → started shapes past e ≡ Some b → b.actor < n → b.object < m →
    length (under_way shapes (e ∷ past)) ≤ 2000000 → CanStart shapes (closed (ended e) (under_way shapes past)) n m b
may_start c shapes past e b n m k is someone something few =
    let bs = closed (ended e) (under_way shapes past) in
    let all : under_way shapes (e ∷ past) ≡ b ∷ bs = ap (λ q. begun q bs) is in
    let stack : length (filter (by b.actor) (b ∷ bs)) ≤ 16 = subst (λ cs. length (filter (by b.actor) cs) ≤ 16) all (k.stacks b.actor) in
    let own : length (filter (by b.actor) (b ∷ bs)) ≡ length (b ∷ filter (by b.actor) bs) = ap (λ t. length (cond t (b ∷ filter (by b.actor) bs) (filter (by b.actor) bs))) (itself b.actor) in
    let count : length (under_way shapes (e ∷ past)) ≡ length (b ∷ bs) = ap (λ cs. length cs) all in
    record {
      actor = someone;
      object = something;
      room = omega (arith, stack, own);
      free = starts_free shapes b.object b bs (subst (λ cs. IsShared shapes cs b.object) all (k.shared b.object)) (itself b.object);
      few = omega (arith, few, count);
    }

pub next_may_start : (c : Limits) (past : List Entry) (shapes : List Shape) (lists : List (List Words)) (e : Entry) (b : Body) → IsLegal c (e ∷ past) shapes lists → 1 ≤ c.capacity → c.capacity ≤ 2 ^ 20 → actors shapes ≤ 75 → length (all_objects shapes) < 257 →
    started shapes past e ≡ Some b → CanStart shapes (closed (ended e) (under_way shapes past)) 75 257 b
next_may_start c past shapes lists e b l some few actors_few objects_few is =
    let new : History = record { limits = c; past = e ∷ past; shapes = shapes; lists = lists } in
    let orderly : Orderly c shapes (e ∷ past) = legal_orderly_at new l in
    let bs = closed (ended e) (under_way shapes past) in
    let all : under_way shapes (e ∷ past) ≡ b ∷ bs = ap (λ q. begun q bs) is in
    let protected : Each (IsProtected shapes) (b ∷ bs) = subst (Each (IsProtected shapes)) all orderly.bodies in
    let at = protected_place shapes b.object b.operation protected.0.0 protected.0.1 in
    let room = few_bodies c (e ∷ past) shapes lists l some few in
    let placed : b.object ≤ length (all_objects shapes) = within_objects shapes b.object at.0 at.1 in
    may_start c shapes past e b 75 257 orderly is
    (starter_known shapes past e b 75 is (known_below c past shapes lists e 75 l actors_few)) (omega (arith, placed, objects_few)) (omega (arith, room.bodies, few))

-- there are fewer list changes than entries
pub few_changes : (past : List Entry) → changes past ≤ length past
few_changes [] = omega arith
few_changes (Asked a r w ∷ past) = omega (arith, few_changes past)
few_changes (Load ∷ past) = omega (arith, few_changes past)
few_changes (ListChange ∷ past) = omega (arith, few_changes past)

pub next_known : {shapes : List Shape} {e : Entry} {x : Change} {p : Present} → IsNext shapes e x p → AreBelow 75 e
next_known {shapes} {e} k = known_below k.limits k.past shapes k.lists e 75 k.legal k.is_present.few_actors

pub next_few : {shapes : List Shape} {e : Entry} {x : Change} {p : Present} (k : IsNext shapes e x p) → length k.past + 1 < 10 ^ 12
next_few {shapes} {e} k = omega (arith, (few_bodies k.limits (e ∷ k.past) shapes k.lists k.legal k.least k.most).entries)

pub next_few_left : {shapes : List Shape} {e : Entry} {x : Change} {p : Present} (k : IsNext shapes e x p) → length (unsettled shapes k.past) ≤ 1048576
next_few_left {shapes} {e = Asked a r w} k = omega (arith, (few_bodies k.limits k.past shapes k.lists k.legal.0 k.least k.most).bodies, k.most)
next_few_left {shapes} {e = Load} k =
    let few = few_bodies k.limits k.past k.legal.0 k.lists k.legal.3 k.least k.most in
    let same : length (unsettled shapes k.past) ≡ length (unsettled k.legal.0 k.past) =
    ap (λ ss. length (unsettled ss k.past)) k.legal.2 ∙ ap (λ bs. length bs) (left_stays k.limits k.past k.legal.0 (k.legal.1 ∷ []) k.lists k.legal.3) in
    omega (arith, few.bodies, same, k.most)
next_few_left {shapes} {e = ListChange} k = omega (arith, (few_bodies k.limits k.past shapes k.legal.0 k.legal.3 k.least k.most).bodies, k.most)

-- entries and all that is owed
pub little_sum : (n d m r k i j : ℕ) → r ≤ n + 1 → n ≤ 1048576 → d ≤ 225 → m ≤ 1 → k < 10 ^ 12 → i ≤ j + 1 → j ≤ 1048576 → k + 1 + (r + i + d + m) < 281474976710656
little_sum n d m r k i j some few less one used left few_left = omega (arith, some, few, less, one, used, left, few_left)
