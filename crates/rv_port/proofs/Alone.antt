-- A port that was never called on quits, and does nothing else.
use Rattle.std.proofs.Common.{◌≡◌, ℕ, zero, suc, ◌+◌, ◌-◌, ◌<◌, ◌≤◌, arith, Bool, true, false, eqb, if◌then◌else◌, List, [], ◌∷◌, ◌++◌, reverse, Option, Some, None, refl, sym, ap, ◌∙◌, subst, append_assoc, append-nil, inl, inr, length}
use Rattle.std.specs.Prelude.{◌&&◌, ◌||◌, nat_lt, slice_get, pos}
use Rattle.std.specs.List.{list_any}
use Rattle.std.proofs.lemmas.Bool.Decides.{nat_tests}
use Rattle.std.proofs.lemmas.List.{reverse-append}
use Rattle.rv_access.specs.Words.{Words}
use Rattle.rv_shape.specs.Shape.{Shape}
use Rattle.rv_shape.specs.Fits.{shape_fits}
use Rattle.rv_shape.specs.Catalogue.{Operator, Line, Task, UnitTask, tasks_of, all_tasks, task_of, who}
use Rattle.rv_event.specs.Past.{archived, halted, is_own, mode}
use Rattle.rv_event.specs.declared.entry.Answer.{Answer}
use Rattle.rv_event.specs.declared.entry.Entry.{Entry}
use Rattle.rv_event.specs.declared.entry.Entry.TheVariants.{Asked, Load, ListChange}
use Rattle.rv_event.specs.declared.entry.Mode.TheVariants as Modes
use Rattle.rv_event.specs.declared.entry.Recorded.TheVariants as Says
use Rattle.rv_event.specs.declared.entry.Request.TheVariants.{Quit}
use Rattle.rv_history.specs.Due.{gate, nothing_more, out, within}
use Rattle.rv_history.specs.Fitting.{fits, idle_task}
use Rattle.rv_history.specs.History.{History}
use Rattle.rv_history.specs.declared.limits.Limits.{Limits}
use Rattle.rv_history.specs.Legal.{IsLegal, Legal}
use Rattle.rv_history.specs.Owed.{actors, has_room, owed}
use Rattle.rv_history.proofs.Archived.{few_archived}
use Rattle.rv_history.proofs.Frame.{mode_stays}
use Rattle.rv_history.proofs.Pays.{quit_never_full}
use Rattle.rv_history.proofs.Room.{from_room, legal_solvent}
use Rattle.rv_history.proofs.Silent.{apart_while}
use Rattle.rv_turn.specs.Histories.{mine, StartsWith}
use Rattle.rv_turn.specs.Prefixes.{mine-append}
use Rattle.rv_port.specs.Actors.{performs, is_performer}
use Rattle.rv_port.specs.Alone.{IsUnused, quit_alone}
use Rattle.rv_port.specs.Controls.{IsGiven}
use Rattle.rv_port.specs.Calls.{QuitBy, Quits}
use Rattle.rv_behind.specs.Events.{by, catalogue_of, history_at, marks}
use Rattle.rv_port.specs.Traces.{Passing, limits_in, noted}
use Rattle.rv_port.specs.Traces as Traces
use Rattle.rv_behind.specs.declared.event.Event.{Event}
use Rattle.rv_behind.specs.declared.event.Event.TheVariants.{Asks, Loads, Lists}
use Rattle.rv_port.proofs.Actors.{catalogue-append, handler_later, performer_handles, performer_some}

-- No event of the actor

off : false ≡ true → ⊥
off e = cc

tail_none : (a : ℕ) (b : Bool) (e : Event) (es : List Event) → (if b then e ∷ mine by a es else mine by a es) ≡ [] → (b ≡ false) × (mine by a es ≡ [])
tail_none a true e es is = absurd (cc is)
tail_none a false e es is = (refl, is)

by_none : (b c : Bool) → b ≡ false → c ≡ false → (b || c) ≡ false
by_none true c e f = absurd (off (sym e))
by_none false c e f = f

-- then none of the entries is its own
none_own : (a : ℕ) (es : List Event) → 0 < a → mine by a es ≡ [] → list_any (is_own a) (marks es) ≡ false
none_own a [] some is = refl
none_own a (Asks b q w ∷ es) some is =
    let parts = tail_none a (eqb b a) (Asks b q w) es is in by_none (eqb b a) (list_any (is_own a) (marks es)) parts.0 (none_own a es some parts.1)
none_own a (Loads s u ∷ es) some is = none_own a es some (tail_none a (eqb 0 a) (Loads s u) es is).1
none_own a (Lists l ∷ es) some is = none_own a es some (tail_none a (eqb 0 a) (Lists l) es is).1

-- nor backwards
mine_back : (a : ℕ) (es : List Event) → mine by a es ≡ [] → mine by a (reverse es) ≡ []
mine_back a [] is = refl
mine_back a (e ∷ es) is =
    let parts = tail_none a (eqb (by e) a) e es is in
    ap (mine by a) (reverse-append (e ∷ []) es)
    ∙ (mine-append by a (reverse es) (e ∷ []) ∙ (ap (λ (l : List Event). l ++ mine by a (e ∷ [])) (mine_back a es parts.1) ∙ ap (λ (b : Bool). if b then e ∷ [] else []) parts.0))

-- One that has no entry is idle

idle_at : (h : History) (a : ℕ) → Legal h → list_any (is_own a) h.past ≡ false → mode h.shapes a h.past ≡ Modes.Idle
idle_at h a l none =
    let whole : h.past ++ [] ≡ h.past = append-nil h.past in
    let apart = apart_while h.limits h.past [] h.shapes h.lists a (subst (λ (p : List Entry). IsLegal h.limits p h.shapes h.lists) (sym whole) l) refl none in
    ap (mode h.shapes a) (sym whole) ∙ mode_stays h.shapes a h.past [] apart

-- and may quit, if it is a task

pub record IsTask (shapes : List Shape) (a : ℕ) : Type 0 where
  pub seat : UnitTask
  pub is : slice_get (all_tasks shapes) (a - 11) ≡ Some seat

task_seat : (shapes : List Shape) (a : ℕ) → nat_lt a 11 ≡ false → 0 < a → is_performer shapes a ≡ true → IsTask shapes a
task_seat shapes a task some e = by_zero (eqb a 0) (nat_lt a 11) task e
  where
    by_seat : (o : Option UnitTask) → slice_get (all_tasks shapes) (a - 11) ≡ o → performs shapes (task_of o) ≡ true → IsTask shapes a
    by_seat None is e = absurd (off e)
    by_seat (Some seat) is e = record { seat = seat; is = is }

    by_zero : (b c : Bool) → c ≡ false → performs shapes (if b then Operator else (if c then Line (a - 1) else task_of (slice_get (all_tasks shapes) (a - 11)))) ≡ true → IsTask shapes a
    by_zero true c f e = absurd (off e)
    by_zero false true f e = absurd (off (sym f))
    by_zero false false f e = by_seat (slice_get (all_tasks shapes) (a - 11)) refl e

get_stays : (xs ys : List UnitTask) (n : ℕ) (x : UnitTask) → slice_get xs n ≡ Some x → slice_get (xs ++ ys) n ≡ Some x
get_stays [] ys n x e = absurd (cc e)
get_stays (z ∷ xs) ys zero x e = e
get_stays (z ∷ xs) ys (suc n) x e = get_stays xs ys n x e

get_below : (xs : List UnitTask) (n : ℕ) (x : UnitTask) → slice_get xs n ≡ Some x → n < length xs
get_below [] n x e = absurd (cc e)
get_below (z ∷ xs) zero x e = omega arith
get_below (z ∷ xs) (suc n) x e = let less = get_below xs n x e in omega (arith, less)

tasks_append : (old more : List Shape) → all_tasks (old ++ more) ≡ all_tasks old ++ all_tasks more
tasks_append [] more = refl
tasks_append (s ∷ old) more = ap (λ (ts : List UnitTask). tasks_of s ++ ts) (tasks_append old more) ∙ sym (append_assoc (tasks_of s) (all_tasks old) (all_tasks more))

task_stays : (seen at : List Event) (a : ℕ) → StartsWith at seen → IsTask (catalogue_of seen) a → IsTask (catalogue_of at) a
task_stays seen at a w t = record {
  seat = t.seat;
  is = ap (λ (l : List Event). slice_get (all_tasks (catalogue_of l)) (a - 11)) w.1
      ∙ (ap (λ (ss : List Shape). slice_get (all_tasks ss) (a - 11)) (catalogue-append seen w.0)
      ∙ (ap (λ (ts : List UnitTask). slice_get ts (a - 11)) (tasks_append (catalogue_of seen) (catalogue_of w.0))
      ∙ get_stays (all_tasks (catalogue_of seen)) (all_tasks (catalogue_of w.0)) (a - 11) t.seat t.is));
}

known : (n a : ℕ) → nat_lt a 11 ≡ false → a - 11 < n → nat_lt a (11 + n) ≡ true
known n a task less = grind (arith, nat_tests)

no_zero : (a : ℕ) → nat_lt a 11 ≡ false → eqb a 0 ≡ false
no_zero a task = grind (arith, nat_tests)

is_who : (shapes : List Shape) (a : ℕ) (t : IsTask shapes a) → nat_lt a 11 ≡ false → who shapes a ≡ Task t.seat
is_who shapes a t task = ap (λ (b : Bool). if b then Operator else (if nat_lt a 11 then Line (a - 1) else task_of (slice_get (all_tasks shapes) (a - 11)))) (no_zero a task)
    ∙ (ap (λ (b : Bool). if b then Line (a - 1) else task_of (slice_get (all_tasks shapes) (a - 11))) task ∙ ap task_of t.is)

both : (b c : Bool) → b ≡ true → c ≡ true → (b && c) ≡ true
both true c e f = f
both false c e f = absurd (off e)

no_shut : (b : Bool) → (b && false) ≡ false
no_shut true = refl
no_shut false = refl

-- a host with a task has room for an entry, as for the load of its unit

load_room : (b c enough : Bool) → gate b c (within enough nothing_more) ≡ nothing_more → enough ≡ true
load_room false c enough e = absurd (cc e)
load_room true true enough e = absurd (cc e)
load_room true false true e = refl
load_room true false false e = absurd (cc e)

no_seat : (a : ℕ) → IsTask [] a → ⊥
no_seat a t = let less = get_below [] (a - 11) t.seat t.is in omega (arith, less)

some_room : (c : Limits) (past : List Entry) (shapes : List Shape) (lists : List (List Words)) (a : ℕ) → IsLegal c past shapes lists → IsTask shapes a → 1 ≤ c.capacity
some_room c [] shapes lists a l t = absurd (no_seat a (subst (λ (ss : List Shape). IsTask ss a) l.0 t))
some_room c (Asked b q w ∷ past) shapes lists a l t = some_room c past shapes lists a l.0 t
some_room c (ListChange ∷ past) shapes lists a l t = some_room c past shapes l.0 a l.3 t
some_room c (Load ∷ past) shapes lists a l t =
    let has = load_room (shape_fits l.0 l.1) (halted past) (has_room c.capacity (l.0 ++ l.1 ∷ []) (Load ∷ past)) l.4 in
    let n : suc (length past) + owed (l.0 ++ l.1 ∷ []) (Load ∷ past) ≤ c.capacity + archived past = from_room _ (c.capacity + archived past) has in
    let before : History = record { limits = c; past = past; shapes = l.0; lists = lists } in
    omega (arith, n, few_archived before l.3)

quit_due : (h : History) (a : ℕ) → Legal h → nat_lt a 11 ≡ false → IsTask h.shapes a → list_any (is_own a) h.past ≡ false → out h a Quit ≡ nothing_more
quit_due h a l task t none =
    let some = some_room h.limits h.past h.shapes h.lists a l t in
    let idle = idle_at h a l none in
    let there : nat_lt a (actors h.shapes) ≡ true = known (length (all_tasks h.shapes)) a task (get_below (all_tasks h.shapes) (a - 11) t.seat t.is) in
    let may : idle_task (who h.shapes a) (mode h.shapes a h.past) ≡ true = ap (λ m. idle_task (who h.shapes a) m) idle ∙ ap (λ w. idle_task w Modes.Idle) (is_who h.shapes a t task) in
    let fit : fits h a Quit ≡ true = both (nat_lt a (actors h.shapes)) (idle_task (who h.shapes a) (mode h.shapes a h.past)) there may in
    quit_never_full h a (legal_solvent h some l)
    ∙ (ap (λ (b : Bool). gate b (halted h.past && false) nothing_more) fit ∙ ap (λ (b : Bool). gate true b nothing_more) (no_shut (halted h.past)))

-- The law

task_alone : (v w : Passing) (r : Answer) → IsUnused v → nat_lt v.actor 11 ≡ false → Traces.Asked v Quit r w → w.own ≡ Asks v.actor Quit (Says.Accepted (pos 0)) ∷ []
task_alone v w r u task x =
    let h = history_at (limits_in v.about) x.at in
    let none : mine by v.actor x.at ≡ [] = x.owned ∙ (ap (λ (l : List Event). l ++ v.own) u.base ∙ u.none) in
    let some = performer_some (catalogue_of v.seen) v.actor u.performer in
    let seat = task_stays v.seen x.at v.actor x.from (task_seat (catalogue_of v.seen) v.actor task some u.performer) in
    let due : r ≡ nothing_more = x.due_is ∙ quit_due h v.actor x.legal task seat (none_own v.actor (reverse x.at) some (mine_back v.actor x.at none)) in
    x.own_is ∙ (ap (λ (l : List Event). l ++ noted v.actor ((Quit, r) ∷ [])) u.none ∙ ap (λ (answer : Answer). noted v.actor ((Quit, answer) ∷ [])) due)

alone_by : (v w : Passing) (b : Bool) → IsUnused v → nat_lt v.actor 11 ≡ b → QuitBy b v w → w.own ≡ (if b then [] else Asks v.actor Quit (Says.Accepted (pos 0)) ∷ [])
alone_by v w true u is same = ap (λ (z : Passing). z.own) same ∙ u.none
alone_by v w false u is (inl worn) = let act = u.act in let left = worn.0 in absurd (omega (arith, act, left))
alone_by v w false u is (inr asked) = task_alone v w asked.0 u is asked.1.0

pub quits_alone : (v w : Passing) → IsUnused v → Quits v w → w.own ≡ quit_alone v.actor
quits_alone v w u quits = alone_by v w (nat_lt v.actor 11) u refl quits

-- A port as it is given is such a one

line_who : (shapes : List Shape) (a : ℕ) → 0 < a → nat_lt a 11 ≡ true → who shapes a ≡ Line (a - 1)
line_who shapes a some line = ap (λ (b : Bool). if b then Operator else (if nat_lt a 11 then Line (a - 1) else task_of (slice_get (all_tasks shapes) (a - 11)))) (not_zero a some)
    ∙ ap (λ (b : Bool). if b then Line (a - 1) else task_of (slice_get (all_tasks shapes) (a - 11))) line
  where
    not_zero : (a : ℕ) → 0 < a → eqb a 0 ≡ false
    not_zero a some = grind (arith, nat_tests)

performs_later : (seen at : List Event) (a : ℕ) → StartsWith at seen → is_performer (catalogue_of seen) a ≡ true → is_performer (catalogue_of at) a ≡ true
performs_later seen at a w e = by_line (nat_lt a 11) refl
  where
    by_line : (b : Bool) → nat_lt a 11 ≡ b → is_performer (catalogue_of at) a ≡ true
    by_line true line = ap (performs (catalogue_of at)) (line_who (catalogue_of at) a (performer_some (catalogue_of seen) a e) line)
        ∙ (handler_later seen at a w (performer_handles (catalogue_of seen) a e)).handled line
    by_line false task = let t = task_stays seen at a w (task_seat (catalogue_of seen) a task (performer_some (catalogue_of seen) a e) e) in
        ap (performs (catalogue_of at)) (is_who (catalogue_of at) a t task)

pub given_unused : (control after port : Passing) (actor : ℕ) → IsGiven control actor after port → IsUnused port
given_unused control after port actor g = let p = g.parted in
    subst IsUnused (sym p.new_is) (record { act = omega arith; performer = performs_later control.seen after.seen actor p.later g.performer; base = refl; none = refl })
