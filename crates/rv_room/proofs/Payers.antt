-- A recorded call, delay, read of the clock or fire is charged to a unit that there is.
use Rattle.std.proofs.Common.{◌≡◌, ◌⊎◌, ◌∙◌, ℕ, zero, suc, ◌+◌, ◌-◌, ◌<◌, List, [], ◌∷◌, ◌++◌, length, map, Option, Some, None, Bool, true, false, arith, ap, subst, sym, refl, inl, inr}
use Rattle.std.specs.Prelude.{◌==◌, ◌||◌, nat_lt, if◌then◌else◌, flat_map, slice_get}
use Rattle.std.specs.List.{list_any}
use Rattle.std.specs.Option.{option_map}
use Rattle.std.proofs.lemmas.List.{length-map}
use Rattle.std.proofs.lemmas.Option.{slice_get-map}
use Rattle.rv_text.specs.Names.{is_same_name}
use Rattle.rv_shape.specs.Catalogue.{Line, Operator, OperationNumber, UnitObject, UnitTask, Who, all_objects, all_tasks, handler, at_unit_object, objects_of, place, task_of, tasks_of, who}
use Rattle.rv_shape.specs.Names.{number_from, unit_name, unit_number}
use Rattle.rv_shape.specs.Readers.{actor_task}
use Rattle.rv_shape.specs.Objects.{TaskShape}
use Rattle.rv_shape.specs.Shape.{Shape}
use Rattle.rv_shape.specs.declared.object.Object.{Object}
use Rattle.rv_shape.proofs.NumberingLemmas.{same_laws}
use Rattle.rv_event.specs.Past.{held, holds_some, innermost, mode, mode_by, mode_with, stance, to_settle, under_way}
use Rattle.rv_event.specs.Recorded.{recorded}
use Rattle.rv_event.specs.declared.entry.Body.{Body}
use Rattle.rv_event.specs.declared.entry.Mode.TheVariants as Modes
use Rattle.rv_event.specs.declared.entry.Recorded.{Recorded}
use Rattle.rv_event.specs.declared.entry.Request.TheVariants.{Fire}
use Rattle.rv_event.specs.declared.entry.Stance.{Stance}
use Rattle.rv_event.specs.declared.entry.Stance.TheVariants.{Free, InQueue, HandedOver, DroppedBy, WaitsOn, WaitsUntil, Gone}
use Rattle.rv_history.specs.Allowance.{asking_unit, charged, handler_unit, number_of, object_unit, task_unit}
use Rattle.rv_history.specs.Due.{due_call, due_fire, out}
use Rattle.rv_history.specs.Fitting.{idle_line, may_call}
use Rattle.rv_history.specs.History.{History}
use Rattle.rv_history.specs.Legal.{Legal}
use Rattle.rv_history.specs.Orderly.{IsProtected}
use Rattle.rv_history.proofs.Answered.{answered, off}
use Rattle.rv_history.proofs.Bodies.{each_first}
use Rattle.rv_history.proofs.Loaded.{protected_place}
use Rattle.rv_history.proofs.Modes.{calls_at, calls_none, fires_at, fires_none, unfit}
use Rattle.rv_history.proofs.Orderly.{legal_orderly_at}

-- The number of a name that stands among others

-- the unit is one of so many, by its number
abbrev pub IsOneOf : ℕ → Option ℕ → Type 0
IsOneOf count number = (n : ℕ) × (n < count) × (number ≡ Some (suc n))

ranged : (name : List ℕ) (k : ℕ) (names : List (List ℕ)) → list_any (is_same_name name) names ≡ true
    → (n : ℕ) × (n < length names) × (number_from name k names ≡ Some (k + n))
ranged name k [] e = absurd (off e)
ranged name k (first ∷ names) e = by_test (is_same_name name first) e (ranged name (k + 1) names)
  where
    by_test : (t : Bool) → (t || list_any (is_same_name name) names) ≡ true
        → (list_any (is_same_name name) names ≡ true → (n : ℕ) × (n < length names) × (number_from name (k + 1) names ≡ Some (k + 1 + n)))
        → (n : ℕ) × (n < length (first ∷ names)) × ((if t then Some k else number_from name (k + 1) names) ≡ Some (k + n))
    by_test true some rest = (0, omega arith, ap (λ (m : ℕ). Some m) (omega arith))
    by_test false some rest =
        let behind = rest some in
        let next : k + 1 + behind.0 ≡ k + suc behind.0 = omega arith in
        (suc behind.0, omega (arith, behind.1), behind.2 ∙ ap (λ (m : ℕ). Some m) next)

among : (shapes : List Shape) (n : ℕ) (s : Shape) → slice_get shapes n ≡ Some s → list_any (is_same_name s.name) (map unit_name shapes) ≡ true
among [] n s e = absurd (cc)
among (shape ∷ shapes) zero s e =
    let same : shape ≡ s = ap (λ (o : Option Shape). or_shape o) e in
    ap (λ (x : Shape). is_same_name s.name x.name || list_any (is_same_name s.name) (map unit_name shapes)) same
    ∙ ap (λ (b : Bool). b || list_any (is_same_name s.name) (map unit_name shapes)) (same_laws.refl s.name)
  where
    or_shape : Option Shape → Shape
    or_shape None = shape
    or_shape (Some x) = x
among (shape ∷ shapes) (suc n) s e = either (is_same_name s.name shape.name) (among shapes n s e)
  where
    either : (b : Bool) {c : Bool} → c ≡ true → (b || c) ≡ true
    either true is = refl
    either false is = is

unit_found : (shapes : List Shape) (n : ℕ) (s : Shape) → slice_get shapes n ≡ Some s → IsOneOf (length shapes) (unit_number shapes s.name)
unit_found shapes n s e =
    let found = ranged s.name 1 (map unit_name shapes) (among shapes n s e) in
    let count : length (map unit_name shapes) ≡ length shapes = length-map shapes unit_name in
    let next : 1 + found.0 ≡ suc found.0 = omega arith in
    (found.0, omega (arith, found.1, count), found.2 ∙ ap (λ (m : ℕ). Some m) next)

-- What stands in a unit

in_append : {X : Type 0} (xs ys : List X) (i : ℕ) (x : X) → slice_get (xs ++ ys) i ≡ Some x
    → ((j : ℕ) × (slice_get xs j ≡ Some x)) ⊎ ((j : ℕ) × (slice_get ys j ≡ Some x))
in_append [] ys i x e = inr (i, e)
in_append (first ∷ xs) ys zero x e = inl (0, e)
in_append {X} (first ∷ xs) ys (suc i) x e = by_part (in_append xs ys i x e)
  where
    by_part : ((j : ℕ) × (slice_get xs j ≡ Some x)) ⊎ ((j : ℕ) × (slice_get ys j ≡ Some x))
        → ((j : ℕ) × (slice_get (first ∷ xs) j ≡ Some x)) ⊎ ((j : ℕ) × (slice_get ys j ≡ Some x))
    by_part (inl here) = inl (suc here.0, here.1)
    by_part (inr there) = inr there

-- where a part of a unit stands
abbrev Found : {X : Type 0} → (Shape → List X) → List Shape → X → Type 0
Found parts shapes x = (n : ℕ) × (s : Shape) × (slice_get shapes n ≡ Some s) × ((j : ℕ) × (slice_get (parts s) j ≡ Some x))

in_units : {X : Type 0} (parts : Shape → List X) (shapes : List Shape) (i : ℕ) (x : X) → slice_get (flat_map parts shapes) i ≡ Some x → Found parts shapes x
in_units parts [] i x e = absurd (cc)
in_units {X} parts (s ∷ shapes) i x e = by_part (in_append (parts s) (flat_map parts shapes) i x e) (λ j. in_units parts shapes j x)
  where
    by_part : ((j : ℕ) × (slice_get (parts s) j ≡ Some x)) ⊎ ((j : ℕ) × (slice_get (flat_map parts shapes) j ≡ Some x))
        → ((j : ℕ) → slice_get (flat_map parts shapes) j ≡ Some x → Found parts shapes x) → Found parts (s ∷ shapes) x
    by_part (inl here) rest = (0, s, refl, here)
    by_part (inr there) rest =
        let found = rest there.0 there.1 in
        (suc found.0, found.1, found.2, found.3)

task_in : (s : Shape) (j : ℕ) (at : UnitTask) → slice_get (tasks_of s) j ≡ Some at → at.unit ≡ s.name
task_in s j at e = by_task (slice_get s.tasks j) (sym (slice_get-map _ s.tasks j) ∙ e)
  where
    by_task : (o : Option TaskShape) → option_map (λ (t : TaskShape). let u : UnitTask = record { unit = s.name; task = t } in u) o ≡ Some at → at.unit ≡ s.name
    by_task None e = absurd (cc)
    by_task (Some t) e = sym (ap (λ (o : Option UnitTask). unit_in o) e)
      where
        unit_in : Option UnitTask → List ℕ
        unit_in None = s.name
        unit_in (Some u) = u.unit

object_in : (s : Shape) (j : ℕ) (at : UnitObject) → slice_get (objects_of s) j ≡ Some at → at.unit ≡ s.name
object_in s j at e = by_object (slice_get s.objects j) (sym (slice_get-map _ s.objects j) ∙ e)
  where
    by_object : (o : Option Object) → option_map (λ (t : Object). let u : UnitObject = record { unit = s.name; object = t } in u) o ≡ Some at → at.unit ≡ s.name
    by_object None e = absurd (cc)
    by_object (Some t) e = sym (ap (λ (o : Option UnitObject). unit_in o) e)
      where
        unit_in : Option UnitObject → List ℕ
        unit_in None = s.name
        unit_in (Some u) = u.unit

task_pays : (shapes : List Shape) (a : ℕ) (at : UnitTask) → actor_task shapes a ≡ Some at → IsOneOf (length shapes) (task_unit shapes a)
task_pays shapes a at e = by_low (nat_lt a 11) refl e
  where
    by_low : (t : Bool) → nat_lt a 11 ≡ t → (if t then None else slice_get (all_tasks shapes) (a - 11)) ≡ Some at → IsOneOf (length shapes) (task_unit shapes a)
    by_low true is e = absurd (cc)
    by_low false is e =
        let found = in_units tasks_of shapes (a - 11) at e in
        let named : at.unit ≡ found.1.name = task_in found.1 found.3.0 at found.3.1 in
        let whole : actor_task shapes a ≡ Some at = ap (λ (b : Bool). if b then None else slice_get (all_tasks shapes) (a - 11)) is ∙ e in
        let pays : task_unit shapes a ≡ unit_number shapes found.1.name =
        ap (λ (o : Option UnitTask). number_of shapes (option_map (λ u. u.unit) o)) whole ∙ ap (unit_number shapes) named in
        subst (IsOneOf (length shapes)) (sym pays) (unit_found shapes found.0 found.1 found.2)

object_pays : (shapes : List Shape) (object : ℕ) (at : UnitObject) → place shapes object ≡ Some at → IsOneOf (length shapes) (object_unit shapes object)
object_pays shapes object at e = by_low (nat_lt object 1) refl e
  where
    by_low : (t : Bool) → nat_lt object 1 ≡ t → (if t then None else slice_get (all_objects shapes) (object - 1)) ≡ Some at → IsOneOf (length shapes) (object_unit shapes object)
    by_low true is e = absurd (cc)
    by_low false is e =
        let found = in_units objects_of shapes (object - 1) at e in
        let named : at.unit ≡ found.1.name = object_in found.1 found.3.0 at found.3.1 in
        let whole : place shapes object ≡ Some at = ap (λ (b : Bool). if b then None else slice_get (all_objects shapes) (object - 1)) is ∙ e in
        let pays : object_unit shapes object ≡ unit_number shapes found.1.name =
        ap (λ (o : Option UnitObject). number_of shapes (option_map (λ u. u.unit) o)) whole ∙ ap (unit_number shapes) named in
        subst (IsOneOf (length shapes)) (sym pays) (unit_found shapes found.0 found.1 found.2)

-- Who asks

calls_free : (w : Who) (bs : List Body) (s : Stance) → may_call w (mode_by bs s) ≡ true → s ≡ Free
calls_free w bs Free e = refl
calls_free w bs InQueue e = absurd (unfit _ (calls_none w Modes.Queued refl) e)
calls_free w bs HandedOver e = absurd (unfit _ (calls_none w Modes.Handed refl) e)
calls_free w bs (DroppedBy line) e = absurd (unfit _ (calls_none w Modes.Dropped refl) e)
calls_free w bs (WaitsOn object) e = absurd (unfit _ (calls_none w Modes.Suspended refl) e)
calls_free w bs (WaitsUntil time) e = absurd (unfit _ (calls_none w Modes.Delayed refl) e)
calls_free w bs Gone e = absurd (unfit _ (calls_none w Modes.Ended refl) e)

pub caller_free : (h : History) (a : ℕ) → may_call (who h.shapes a) (mode h.shapes a h.past) ≡ true → stance a h.past ≡ Free
caller_free h a e =
    calls_free (who h.shapes a) (held h.shapes a h.past) (stance a h.past)
    (calls_at (who h.shapes a) (to_settle h.shapes a h.past) (mode_by (held h.shapes a h.past) (stance a h.past)) e)

-- one that holds nothing and may call is a task
idle_task_is : (shapes : List Shape) (a : ℕ) → may_call (who shapes a) Modes.Idle ≡ true → (at : UnitTask) × (actor_task shapes a ≡ Some at)
idle_task_is shapes a e = by_tests (a == 0) (nat_lt a 11) (slice_get (all_tasks shapes) (a - 11)) e
  where
    by_tests : (b c : Bool) (t : Option UnitTask) → may_call (if b then Operator else (if c then Line (a - 1) else task_of t)) Modes.Idle ≡ true
        → (at : UnitTask) × ((if c then None else t) ≡ Some at)
    by_tests true c t e = absurd (off e)
    by_tests false true t e = absurd (off e)
    by_tests false false None e = absurd (off e)
    by_tests false false (Some at) e = (at, refl)

none_held : (bs : List Body) → slice_get bs 0 ≡ None → holds_some bs ≡ false
none_held [] e = refl
none_held (b ∷ bs) e = absurd (cc)

pub asks_pays : (h : History) (a : ℕ) → Legal h → may_call (who h.shapes a) (mode h.shapes a h.past) ≡ true
    → IsOneOf (length h.shapes) (asking_unit h.shapes a (innermost h.shapes a h.past))
asks_pays h a l e = by_body (innermost h.shapes a h.past) refl
  where
    free : stance a h.past ≡ Free
    free = caller_free h a e

    by_body : (o : Option Body) → innermost h.shapes a h.past ≡ o → IsOneOf (length h.shapes) (asking_unit h.shapes a o)
    by_body None is =
        let idle : may_call (who h.shapes a) (mode_by (held h.shapes a h.past) (stance a h.past)) ≡ true =
        calls_at (who h.shapes a) (to_settle h.shapes a h.past) (mode_by (held h.shapes a h.past) (stance a h.past)) e in
        let none : holds_some (held h.shapes a h.past) ≡ false = none_held (held h.shapes a h.past) is in
        let at = idle_task_is h.shapes a (sym (λ i. may_call (who h.shapes a) (mode_with (none i) (free i))) ∙ idle) in
        task_pays h.shapes a at.0 at.1
    by_body (Some body) is =
        let protected = each_first (IsProtected h.shapes) a body (under_way h.shapes h.past) (legal_orderly_at h l).bodies is in
        let at = protected_place h.shapes body.object body.operation protected.0 protected.1 in
        object_pays h.shapes body.object at.0 at.1

fired_pays : (h : History) (a : ℕ) (w : Recorded) (o : Option OperationNumber) → recorded (due_fire h a o) ≡ Some w → IsOneOf (length h.shapes) (handler_unit h.shapes o)
fired_pays h a w None e = absurd (cc)
fired_pays h a w (Some n) e = by_place (place h.shapes n.object) refl e
  where
    by_place : (o : Option UnitObject) → place h.shapes n.object ≡ o → recorded (due_call h a Fire n.object (at_unit_object n.operation o)) ≡ Some w
        → IsOneOf (length h.shapes) (object_unit h.shapes n.object)
    by_place None is e = absurd (cc)
    by_place (Some at) is e = object_pays h.shapes n.object at is

pub fire_pays : (h : History) (a : ℕ) (w : Recorded) → recorded (out h a Fire) ≡ Some w → IsOneOf (length h.shapes) (charged h.shapes h.past a Fire)
fire_pays h a w e = fired_pays h a w (handler h.shapes (a - 1)) (answered h a Fire w e).said

-- a line that fires isn't at anything
fires_free : (w : Who) (bs : List Body) (s : Stance) → idle_line w (mode_by bs s) ≡ true → s ≡ Free
fires_free w bs Free e = refl
fires_free w bs InQueue e = absurd (unfit _ (fires_none w Modes.Queued refl) e)
fires_free w bs HandedOver e = absurd (unfit _ (fires_none w Modes.Handed refl) e)
fires_free w bs (DroppedBy line) e = absurd (unfit _ (fires_none w Modes.Dropped refl) e)
fires_free w bs (WaitsOn object) e = absurd (unfit _ (fires_none w Modes.Suspended refl) e)
fires_free w bs (WaitsUntil time) e = absurd (unfit _ (fires_none w Modes.Delayed refl) e)
fires_free w bs Gone e = absurd (unfit _ (fires_none w Modes.Ended refl) e)

pub firing_free : (h : History) (a : ℕ) → idle_line (who h.shapes a) (mode h.shapes a h.past) ≡ true → stance a h.past ≡ Free
firing_free h a e =
    fires_free (who h.shapes a) (held h.shapes a h.past) (stance a h.past)
    (fires_at (who h.shapes a) (to_settle h.shapes a h.past) (mode_by (held h.shapes a h.past) (stance a h.past)) e)
