-- What stands behind an entry follows a journal.
use Rattle.std.proofs.Common.{◌≡◌, ℕ, suc, ◌==◌, List, [], ◌∷◌, ◌++◌, Some, None, Option, Bool, true, false, Result, Ok, Err, length, refl, sym, ap, ◌∙◌, subst, append_assoc, append-nil, Bor}
use Rattle.std.specs.Prelude.{OnOk, if◌then◌else◌, ◌&&◌, not, is_some}
use Rattle.std.specs.Option.{option_map}
use Rattle.rv_access.specs.Words.{Words}
use Rattle.rv_shape.specs.Shape.{Shape}
use Rattle.rv_event.specs.Past.{Clears, Sets, Touch, Untouched, Waits, state, state_after, touch, touch_of, waiter}
use Rattle.rv_event.specs.Recorded.{recorded}
use Rattle.rv_event.specs.declared.entry.Answer.{Answer}
use Rattle.rv_event.specs.declared.entry.Entry.{Entry}
use Rattle.rv_event.specs.declared.entry.Entry.TheVariants.{Asked, Load, ListChange}
use Rattle.rv_event.specs.declared.entry.Recorded.{Recorded}
use Rattle.rv_event.specs.declared.entry.Request.{Request}
use Rattle.rv_event.specs.declared.entry.Request.TheVariants.{Call, Complete, Settle, Resume, DelayUntil, Clock, Fire, Quit, Tick, Halt, Archive}
use Rattle.rv_history.specs.History.{History}
use Rattle.rv_history.specs.Legal.{empty}
use Rattle.rv_history.specs.declared.limits.Limits.{Limits}
use Rattle.rv_history.proofs.Growing.{front_is}
use Rattle.rv_history.proofs.Stances.{same_number}
use Rattle.rv_reading.specs.Reads.{told}
use Rattle.rv_reading.specs.Told.{Told, Asks, Loads, Lists}
use Rattle.rv_reading.specs.declared.deed.Deed.{Deed}
use Rattle.rv_reading.specs.declared.deed.Deed.TheVariants as Deeds
use Rattle.rv_audit.specs.Meant.{Meant, Means, OfRequest, OfLoad, OfList, answer_in, due, next}
use Rattle.rv_audit.specs.Observing.{Notes, Takes}
use Rattle.rv_refused.specs.Filters.{FilterText}
use Rattle.rv_refused.specs.Looking.{WillHold}
use Rattle.rv_lasting.specs.Tracks.{Tracked}
use Rattle.rv_lasting.specs.declared.track.Begun.{Begun}
use Rattle.rv_waits.specs.Lasting.{Bodies, Delays, lasting}
use Rattle.rv_waits.specs.Following.{Gathers}
use Rattle.rv_waits.specs.Following as Lasts
use Rattle.rv_waits.specs.declared.waits.Waits.{Waits as Lasting}
use Rattle.rv_state.specs.Behind.{behind, behind_in}
use Rattle.rv_state.specs.Following.{Awaits, Follows, IsKept, KeepsBoth, Looks, said_in}
use Rattle.rv_state.specs.Kept.{KeepsStates, kept_state, put_as, put_by, state_by}
use Rattle.rv_state.specs.States.{clock_line, head_text, list_line, objects_text, or_no_entry, places_text, start_text, state_of, state_text, waiting_text}
use Rattle.rv_state.specs.declared.state.Said.{Said}
use Rattle.rv_state.specs.declared.state.State.{State}
use Rattle.rv_state.specs.declared.states.Put.{Put}
use Rattle.rv_state.specs.declared.states.States.{States}

-- behind one entry more
pub behind_next : (n : ℕ) (h : History) (meant : Meant) (w : Recorded) →
    behind n (next h meant w) ≡ (if n == suc (length h.past) then Some (next h meant w) else behind n h)
behind_next n h (OfRequest actor request) w = refl
behind_next n h (OfLoad actor unit) w =
    ap (λ (ss : List Shape). if n == suc (length h.past) then Some (next h (OfLoad actor unit) w) else behind_in n h.limits h.past ss h.lists) (front_is h.shapes unit)
behind_next n h (OfList actor list) w =
    ap (λ (ls : List (List Words)). if n == suc (length h.past) then Some (next h (OfList actor list) w) else behind_in n h.limits h.past h.shapes ls) (front_is h.lists list)

-- The states

-- the state of an object behind a deed on another or on itself
abbrev after_deed : List Entry → ℕ → Touch → Bool → Bool
after_deed past object t same = state_after (if same then t else Untouched) (waiter object past) (state object past)

-- the same by what is put
abbrev after_put : List Entry → ℕ → ℕ → Bool → Bool → Bool
after_put past on object set same = if same then (set && not (is_some (waiter on past))) else state object past

state_put : (past : List Entry) (on object : ℕ) (t : Touch) (same : Bool) → (on == object) ≡ same →
    after_deed past object t (on == object) ≡ state_by past (put_as on t) object (state object past)
state_put past on object (Waits a) true is = ap (after_deed past object (Waits a)) is ∙ sym (ap (after_put past on object false) is)
state_put past on object (Waits a) false is = ap (after_deed past object (Waits a)) is ∙ sym (ap (after_put past on object false) is)
state_put past on object Clears true is = ap (after_deed past object Clears) is ∙ sym (ap (after_put past on object false) is)
state_put past on object Clears false is = ap (after_deed past object Clears) is ∙ sym (ap (after_put past on object false) is)
state_put past on object Sets true is =
    ap (after_deed past object Sets) is ∙ ap (λ (o : ℕ). not (is_some (waiter o past))) (sym (same_number on object is))
    ∙ sym (ap (after_put past on object true) is)
state_put past on object Sets false is = ap (after_deed past object Sets) is ∙ sym (ap (after_put past on object true) is)
state_put past on object Untouched true is = ap (after_deed past object Untouched) is
state_put past on object Untouched false is = ap (after_deed past object Untouched) is

-- behind an entry
state_behind : (past : List Entry) (object : ℕ) (e : Entry) → state object (e ∷ past) ≡ state_by past (put_by e) object (state object past)
state_behind past object (Asked a (Call on op vs) w) = state_put past on object (touch_of (Asked a (Call on op vs) w)) (on == object) refl
state_behind past object (Asked a (Complete given exit) w) = refl
state_behind past object (Asked a Settle w) = refl
state_behind past object (Asked a Resume w) = refl
state_behind past object (Asked a (DelayUntil time) w) = refl
state_behind past object (Asked a Clock w) = refl
state_behind past object (Asked a Fire w) = refl
state_behind past object (Asked a Quit w) = refl
state_behind past object (Asked a (Tick n) w) = refl
state_behind past object (Asked a Halt w) = refl
state_behind past object (Asked a (Archive n) w) = refl
state_behind past object Load = refl
state_behind past object ListChange = refl

-- nothing is put
pub none_kept : (it : States) (past : List Entry) (e : Entry) → put_by e ≡ None → KeepsStates it past → KeepsStates it (e ∷ past)
none_kept it past e none keeps object =
    keeps object ∙ sym (state_behind past object e ∙ ap (λ (p : Option Put). state_by past p object (state object past)) none)

-- one is
pub one_kept : (old new : States) (past : List Entry) (e : Entry) (p : Put) (set : Bool) → put_by e ≡ Some p → set ≡ (p.state && not (is_some (waiter p.object past))) →
    ((other : ℕ) → kept_state new other ≡ (if p.object == other then set else kept_state old other)) → KeepsStates old past → KeepsStates new (e ∷ past)
one_kept old new past e p set put set_is kept keeps object =
    kept object
    ∙ ap (λ (b : Bool). if p.object == object then b else kept_state old object) set_is
    ∙ ap (λ (b : Bool). if p.object == object then (p.state && not (is_some (waiter p.object past))) else b) (keeps object)
    ∙ sym (state_behind past object e ∙ ap (λ (q : Option Put). state_by past q object (state object past)) put)

-- What a line tells

pub on_ok : {A E : Type 0} (r : Result A E) (X Y : Type 0) → (X → Y) → OnOk r X → OnOk r Y
on_ok (Ok a) X Y f x = f x
on_ok (Err e) X Y f x = x

-- what is kept of the states behind what is told
abbrev pub StatesNoted : States → States → History → Told → Type 0
StatesNoted old new h it = KeepsStates old h.past → (units : List Shape) → WillHold (λ after. KeepsStates new after.past) units h it

asked_at : (old new : States) (h : History) (a : ℕ) (r : Request) (w : Recorded) → (KeepsStates old h.past → KeepsStates new (Asked a r w ∷ h.past)) → StatesNoted old new h (Asks a r w)
asked_at old new h a r w notes keeps units meant means due_is =
    subst (λ (m : Meant). KeepsStates new (next h m w).past) (sym means) (notes keeps)

pub asks_noted : {E : Type 0} (old new : States) (h : History) (deed : Deed) (a : ℕ) (r : Request) (w : Recorded) (result : Result (Unit {0}) E) → deed ≡ Deeds.Asks a r w →
    OnOk result (KeepsStates old h.past → KeepsStates new (Asked a r w ∷ h.past)) → OnOk result (StatesNoted old new h (told deed))
asks_noted old new h deed a r w result is notes =
    subst (λ (d : Deed). OnOk result (StatesNoted old new h (told d))) (sym is)
    (on_ok result (KeepsStates old h.past → KeepsStates new (Asked a r w ∷ h.past)) (StatesNoted old new h (Asks a r w)) (λ n. asked_at old new h a r w n) notes)

load_at : (it : States) (h : History) (a : ℕ) (name : List ℕ) (w : Recorded) → StatesNoted it it h (Loads a name w)
load_at it h a name w keeps units meant means due_is =
    subst (λ (m : Meant). KeepsStates it (next h m w).past) (sym means.2) (λ object. keeps object)

list_at : (it : States) (h : History) (a : ℕ) (text : List ℕ) (w : Recorded) → StatesNoted it it h (Lists a text w)
list_at it h a text w keeps units meant means due_is =
    subst (λ (m : Meant). KeepsStates it (next h m w).past) (sym means.2) (λ object. keeps object)

pub loads_noted : (it : States) (h : History) (deed : Deed) (a : ℕ) (name : Bor (List ℕ)) (w : Recorded) → deed ≡ Deeds.Loads a name w → StatesNoted it it h (told deed)
loads_noted it h deed a name w is = subst (λ (d : Deed). StatesNoted it it h (told d)) (sym is) (load_at it h a name.now w)

pub lists_noted : (it : States) (h : History) (deed : Deed) (a : ℕ) (text : Bor (List ℕ)) (w : Recorded) → deed ≡ Deeds.Lists a text w → StatesNoted it it h (told deed)
lists_noted it h deed a text w is = subst (λ (d : Deed). StatesNoted it it h (told d)) (sym is) (list_at it h a text.now w)

-- The observer

-- what what lasts awaits
abbrev pub LastsNoted : Lasting → Lasting → List Shape → History → ℕ → Told → Type 0
LastsNoted old new units h number it =
    (begun : Lasting) → Notes (Lasts.Follows begun.filter old) (WillHold (λ after. Gathers begun.filter new after.shapes after.past) units) h number it

pub both_noted : (old : State) (waits : Lasting) (states : States) (units : List Shape) (h : History) (number : ℕ) (it : Told) →
    LastsNoted old.waits waits units h number it → StatesNoted old.states states h it → (begun : State) →
    Notes (Follows begun old) (Awaits begun (record old { waits = waits; states = states }) units) h number it
both_noted old waits states units h number it lasts noted begun follows number_is = record {
  number = follows.number;
  will = λ meant means due_is. (noted follows.kept.each units meant means due_is, lasts begun.waits follows.kept.lasts number_is meant means due_is);
  said = follows.said;
}

-- what is said behind an entry
choose : (b : Bool) (x : History) (y : Option History) → (if b then Some (state_of x) else option_map state_of y) ≡ option_map state_of (if b then Some x else y)
choose true x y = refl
choose false x y = refl

by_length : (n : ℕ) (h : History) (meant : Meant) (w : Recorded) →
    (if n == length (next h meant w).past then Some (state_of (next h meant w)) else option_map state_of (behind n h)) ≡ option_map state_of (behind n (next h meant w))
by_length n h (OfRequest a r) w = choose (n == suc (length h.past)) (next h (OfRequest a r) w) (behind n h) ∙ ap (λ (x : Option History). option_map state_of x) (sym (behind_next n h (OfRequest a r) w))
by_length n h (OfLoad a u) w = choose (n == suc (length h.past)) (next h (OfLoad a u) w) (behind n h) ∙ ap (λ (x : Option History). option_map state_of x) (sym (behind_next n h (OfLoad a u) w))
by_length n h (OfList a l) w = choose (n == suc (length h.past)) (next h (OfList a l) w) (behind n h) ∙ ap (λ (x : Option History). option_map state_of x) (sym (behind_next n h (OfList a l) w))

said_next : (n m : ℕ) (h after : History) (meant : Meant) (w : Recorded) (old new : Option (List ℕ)) → m ≡ n → after ≡ next h meant w → old ≡ option_map state_of (behind n h) →
    new ≡ (if m == length after.past then Some (state_of after) else old) → new ≡ option_map state_of (behind n after)
said_next n m h after meant w old new m_is after_is old_is new_is =
    new_is ∙ ap (λ (k : ℕ). if k == length after.past then Some (state_of after) else old) m_is
    ∙ ap (λ (s : Option (List ℕ)). if n == length after.past then Some (state_of after) else s) old_is
    ∙ ap (λ (x : History). if n == length x.past then Some (state_of x) else option_map state_of (behind n h)) after_is
    ∙ by_length n h meant w
    ∙ ap (λ (x : History). option_map state_of (behind n x)) (sym after_is)

-- what what lasts takes
abbrev pub LastsTaken : Lasting → Lasting → List Shape → History → Told → Answer → Type 0
LastsTaken old new units after it answer =
    (begun : Lasting) → Takes (WillHold (λ x. Gathers begun.filter old x.shapes x.past) units) (Lasts.Follows begun.filter new) units after it answer

kept_by : (f : FilterText) (new : State) (states : States) (waits : Lasting) (h : History) → new.states ≡ states → new.waits ≡ waits → IsKept f states waits h → IsKept f new.states new.waits h
kept_by f new states waits h s w kept = record {
  each = subst (λ (x : States). KeepsStates x h.past) (sym s) kept.each;
  lasts = subst (λ (x : Lasting). Lasts.Follows f x h) (sym w) kept.lasts;
}

pub then_follows : (old new : State) (waits : Lasting) (units : List Shape) (after : History) (it : Told) (answer : Answer) → LastsTaken old.waits waits units after it answer →
    Looks (record old { waits = waits }) new after → (begun : State) → Takes (Awaits begun old units) (Follows begun new) units after it answer
then_follows old new waits units after it answer taken looks begun h meant awaits means answer_is recorded_is after_is =
    let due_is : recorded (due h meant) ≡ Some (answer_in it) = ap recorded (sym answer_is) ∙ recorded_is in
    let keeps : KeepsStates old.states after.past = subst (λ (x : History). KeepsStates old.states x.past) (sym after_is) (awaits.will meant means due_is).0 in
    let follows : Lasts.Follows begun.waits.filter waits after = taken begun.waits h meant (λ m e d. (awaits.will m e d).1) means answer_is recorded_is after_is in
    let kept : IsKept begun.waits.filter old.states waits after = record { each = keeps; lasts = follows } in
    record {
      number = looks.number ∙ awaits.number;
      used = looks.used;
      kept = kept_by begun.waits.filter new old.states waits after looks.states looks.waits kept;
      said = said_next begun.number old.number h after meant (answer_in it) (said_in old.said) (said_in new.said) awaits.number after_is awaits.said (looks.said begun.waits.filter kept);
    }

-- Before the first entry

start_is : (b : Bool) (h : History) (text : List ℕ) → text ≡ state_of h → (if b then Some text else None) ≡ option_map state_of (if b then Some h else None)
start_is true h text e = ap (λ (t : List ℕ). let o : Option (List ℕ) = Some t in o) e
start_is false h text e = refl

nothing_more : (a b : List ℕ) → a ++ b ≡ (a ++ (b ++ [])) ++ []
nothing_more a b = sym (append-nil (a ++ (b ++ [])) ∙ ap (λ (x : List ℕ). a ++ x) (append-nil b))

pub at_start : (n : ℕ) (limits : Limits) → (if n == 0 then Some start_text else None) ≡ option_map state_of (behind n (empty limits))
at_start n limits = start_is (n == 0) (empty limits) start_text (nothing_more (clock_line (empty limits)) (list_line (empty limits)))

-- All that is said

pub said_is : (begun it : State) (h : History) (text : List ℕ) → Follows begun it h → text ≡ or_no_entry it.number it.used (said_in it.said) → text ≡ state_text begun.number h
said_is begun it h text follows text_is =
    text_is ∙ ap (λ (n : ℕ). or_no_entry n it.used (said_in it.said)) follows.number
    ∙ ap (λ (n : ℕ). or_no_entry begun.number n (said_in it.said)) follows.used
    ∙ ap (λ (s : Option (List ℕ)). or_no_entry begun.number (length h.past) s) follows.said

-- the parts of a state, one behind another
pub all_put : (f : FilterText) (states : States) (waits : Lasting) (h : History) (bodies delays : List Begun) (start head objects places all : List ℕ) → IsKept f states waits h → bodies ≡ waits.bodies.begun → delays ≡ waits.delays.begun →
    start ≡ [] → head ≡ start ++ head_text h → (KeepsStates states h.past → objects ≡ head ++ objects_text h) →
    (bodies ≡ lasting Bodies h.shapes h.past → places ≡ objects ++ places_text h) → (delays ≡ lasting Delays h.shapes h.past → all ≡ places ++ waiting_text h) → all ≡ state_of h
all_put f states waits h bodies delays start head objects places all kept bodies_is delays_is start_is head_is objects_is places_is all_is =
    let gathers = kept.lasts.gathers in
    let b : bodies ≡ lasting Bodies h.shapes h.past = bodies_is ∙ ap (λ (t : Tracked). t.begun) gathers.bodies in
    let d : delays ≡ lasting Delays h.shapes h.past = delays_is ∙ ap (λ (t : Tracked). t.begun) gathers.delays in
    all_is d
    ∙ ap (λ (x : List ℕ). x ++ waiting_text h) (places_is b ∙ ap (λ (x : List ℕ). x ++ places_text h) (objects_is kept.each ∙ ap (λ (x : List ℕ). x ++ objects_text h) (head_is ∙ ap (λ (x : List ℕ). x ++ head_text h) start_is)))
    ∙ append_assoc (head_text h ++ objects_text h) (places_text h) (waiting_text h)
    ∙ append_assoc (head_text h) (objects_text h) (places_text h ++ waiting_text h)
