-- What the host's calls do to the history behind the turn.
use Rattle.std.proofs.Common.{◌≡◌, ℕ, suc, ◌+◌, length, map, arith, Bool, true, false, if◌then◌else◌, List, [], ◌∷◌, ◌++◌, reverse, Option, Some, None, refl, sym, ap, ◌∙◌, eqb, inl, inr, subst}
use Rattle.std.specs.Prelude.{◌==◌, is_some}
use Rattle.std.proofs.lemmas.Bool.{eq-eqb, ne_eqb}
use Rattle.std.proofs.lemmas.Bool.Decides.{nat_tests}
use Rattle.std.proofs.lemmas.List.{reverse-append, length-append, length-map, length-replicate}
use Rattle.rv_access.specs.Words.{Words}
use Rattle.rv_access.specs.declared.change.Change.{Change}
use Rattle.rv_shape.specs.Shape.{Shape}
use Rattle.rv_shape.specs.Catalogue.{UnitObject, all_objects, objects_of}
use Rattle.rv_shape.specs.declared.object.Object.{Object}
use Rattle.rv_shape.specs.Fits.{shape_fits}
use Rattle.rv_event.specs.Past.{halted}
use Rattle.rv_event.specs.Recorded.{recorded}
use Rattle.rv_event.specs.declared.entry.Request.{Request}
use Rattle.rv_event.specs.declared.entry.Answer.{Answer}
use Rattle.rv_event.specs.declared.entry.Answer.TheVariants.{OutOfMemory, Misuse}
use Rattle.rv_event.specs.declared.entry.Recorded.{Recorded}
use Rattle.rv_event.specs.declared.entry.Entry.TheVariants.{Load, ListChange}
use Rattle.rv_history.specs.declared.limits.Limits.{Limits}
use Rattle.rv_history.specs.History.{History, force}
use Rattle.rv_history.specs.Due.{out, gate, within, nothing_more}
use Rattle.rv_history.specs.Owed.{has_room}
use Rattle.rv_history.specs.Legal as legal
use Rattle.rv_history.specs.Legal.{Legal, out_load, after_load}
use Rattle.rv_access.specs.Changes.{changed}
use Rattle.rv_history.specs.Steps.{MayLackMemory, due_change, after_change}
use Rattle.std.specs.Arc.{arc_value}
use Rattle.std.specs.Prelude.{IfSome}
use Rattle.std.specs.List.{list_all}
use Rattle.rv_code.specs.Bodies as Code
use Rattle.rv_code.specs.declared.expression.Callee.{Callee}
use Rattle.rv_fits.proofs.Both.{first_of_both, second_of_both, both_hold}
use Rattle.rv_fits.proofs.Found.{numbered_found, calls_found, ranges_found}
use Rattle.rv_fits.proofs.Keeps.{calls_keep, alone_calls}
use Rattle.rv_fits.specs.Calls.{object_calls, task_calls, such_in, objects_call, calls_from}
use Rattle.rv_ranged.specs.Ranged.{catalogue_ranged, ranges_fit}
use Rattle.rv_fits.specs.Fits.{are_of, callee_fits, calls_fit, numbered_as, unit_calls_fit}
use Rattle.rv_code.specs.BodyView.{unit_view}
use Rattle.rv_code.specs.declared.body.UnitBodies.{UnitBodies}
use Rattle.rv_exec.specs.Bodies.{all_of, bodies_view, held, shared_view, units_of}
use Rattle.rv_exec.specs.declared.bodies.Bodies.{Bodies}
use Rattle.rv_exec.specs.declared.bodies.SharedUnit.{SharedUnit}
use Rattle.rv_behind.specs.declared.event.Lent.{Lent}
use Rattle.rv_behind.specs.Events.{events, back_of, log_of, log_in, history_at, catalogue_of, bodies_at}
use Rattle.rv_behind.specs.Acting.{AreBrought, all_numbered, BodiesFit, entered, changes, listed, changed_to, Loaded, LoadedIf, fits_behind, Unloaded, Changed, IfOperator, IsLent, lent_view, Due, Does, begun_by}
use Rattle.rv_behind.specs.declared.event.Begun.{Begun}
use Rattle.rv_behind.specs.declared.event.Ask.{Ask}
use Rattle.rv_behind.specs.declared.event.Ask.TheVariants as Wants
use Rattle.rv_behind.specs.declared.event.Reply.{Reply}
use Rattle.rv_behind.specs.declared.event.Reply.TheVariants as Gives
use Rattle.rv_behind.specs.declared.event.Event.{Event}
use Rattle.rv_behind.specs.declared.event.Event.TheVariants.{Asks, Loads, Lists}
use Rattle.rv_behind.proofs.Ranging.{units_ranged, units_alone}
use Rattle.rv_behind.proofs.Zips.{newest, rebuilt, rebuilt_units}

one_more : (es : List Event) (e : Event) → reverse (e ∷ es) ≡ reverse es ++ e ∷ []
one_more es e = reverse-append (e ∷ []) es

pub legal_log : (h : History) (us : List UnitBodies) → Legal h → Legal (history_at h.limits (log_of h us))
legal_log h us l = subst (λ (z : History). Legal z) (sym (rebuilt h us l)) l

-- the catalogue of the events is the host's
pub catalogue_log : (h : History) (us : List UnitBodies) → Legal h → catalogue_of (log_of h us) ≡ h.shapes
catalogue_log h us l = ap (λ (z : History). z.shapes) (rebuilt h us l)

entered_log : (word : Option Recorded) (h : History) (us : List UnitBodies) (a : ℕ) (q : Request) → log_of (legal.entered h a q word) us ≡ entered (log_of h us) a q word
entered_log None h us a q = refl
entered_log (Some word) h us a q = one_more (back_of h us) (Asks a q word)

views_of : (us : List SharedUnit) → map shared_view us ≡ map unit_view (map held us)
views_of [] = refl
views_of (u ∷ us) = ap (λ (z : List Code.UnitBodies). shared_view u ∷ z) (views_of us)

-- the bodies of the events are these
bodies_log : (h : History) (bodies : Bodies) → Legal h → AreBrought h bodies → bodies_view bodies ≡ bodies_at (log_in h bodies)
bodies_log h bodies l b = ap all_of (views_of bodies.units.items) ∙ ap (λ (z : List UnitBodies). all_of (map unit_view z)) (sym (rebuilt_units h (units_of bodies) l b.count))

-- and they fit the units
pub fits_log : (h : History) (bodies : Bodies) → Legal h → AreBrought h bodies → BodiesFit (log_in h bodies)
fits_log h bodies l b = record {
  numbered = (λ i. all_numbered (catalogue_log h (units_of bodies) l i) (map unit_view (rebuilt_units h (units_of bodies) l b.count i))) ∙ b.numbered;
  calls = (λ i. calls_fit (catalogue_log h (units_of bodies) l i) (sym (bodies_log h bodies l b) i)) ∙ b.fit;
  ranges = (λ i. catalogue_ranged (catalogue_log h (units_of bodies) l i) (sym (bodies_log h bodies l b) i)) ∙ b.ranged;
}

-- what was lent are the bodies of the events
lent_log : (h : History) (bodies : Bodies) (lent : Option Lent) → Legal h → AreBrought h bodies
    → IfSome lent (λ l. bodies_view (arc_value l.bodies).bodies ≡ bodies_view bodies) → IsLent (log_in h bodies) (lent_view lent)
lent_log h bodies None l b same = tt
lent_log h bodies (Some lent) l b same = (
  same ∙ bodies_log h bodies l b,
  fits_log h bodies l b,
)

-- the bodies are given
pub given : (h : History) (bodies : Bodies) (a : ℕ) (lent : Option Lent) → Legal h → AreBrought h bodies → IfSome lent (λ l. bodies_view (arc_value l.bodies).bodies ≡ bodies_view bodies)
    → Does h.limits (log_in h bodies) a Wants.Bodies (Gives.Bodies lent) (log_in h bodies)
given h bodies a lent l some kept = (legal_log h (units_of bodies) l, fits_log h bodies l some, (lent_log h bodies lent l some kept, refl))

pub stepped : (h k : History) (bodies : Bodies) (a : ℕ) (q : Request) (r : Answer) (b : Begun) (lent : Option Lent) → Legal h → AreBrought h bodies → r ≡ out h a q → k ≡ legal.after h a q r
    → b ≡ begun_by k.shapes a q r → k.shapes ≡ h.shapes → IfSome lent (λ l. bodies_view (arc_value l.bodies).bodies ≡ bodies_view bodies)
    → Does h.limits (log_in h bodies) a (Wants.Step q) (Gives.Answered r b lent) (log_in k bodies)
stepped h k bodies a q r b lent l some is e begun same kept = let us = units_of bodies in (
  legal_log h us l,
  fits_log h bodies l some,
  (
    (is ∙ ap (λ (z : History). out z a q) (sym (rebuilt h us l)), ap (λ (z : History). log_of z us) e ∙ entered_log (recorded r) h us a q),
    begun ∙ ap (λ (z : List Shape). begun_by z a q r) (same ∙ sym (catalogue_log h us l)),
    lent_log h bodies lent l some kept,
  ),
)

entered_shapes : (word : Option Recorded) (h : History) (a : ℕ) (q : Request) → (legal.entered h a q word).shapes ≡ h.shapes
entered_shapes None h a q = refl
entered_shapes (Some word) h a q = refl

pub step_shapes : (h k : History) (a : ℕ) (q : Request) (r : Answer) → k ≡ legal.after h a q r → k.shapes ≡ h.shapes
step_shapes h k a q r e = ap (λ (z : History). z.shapes) e ∙ entered_shapes (recorded r) h a q

-- the bodies of units after a load
abbrev pub units_if : Bool → List UnitBodies → UnitBodies → List UnitBodies
units_if b us unit = if b then us ++ unit ∷ [] else us

loaded_log : (b : Bool) (h : History) (us : List UnitBodies) (shape : Shape) (unit : UnitBodies)
    → log_of (if b then record h { past = Load ∷ h.past; shapes = h.shapes ++ shape ∷ [] } else h) (units_if b us unit) ≡ (if b then log_of h us ++ Loads shape (Some unit) ∷ [] else log_of h us)
loaded_log false h us shape unit = refl
loaded_log true h us shape unit =
    ap reverse (λ i. events (Load ∷ h.past) (newest (h.shapes ++ shape ∷ []) h.shapes shape refl i) (newest (us ++ unit ∷ []) us unit refl i) (reverse h.lists))
    ∙ one_more (back_of h us) (Loads shape (Some unit))

pub loaded_is : (h k : History) (us vs : List UnitBodies) (shape : Shape) (unit : UnitBodies) (r : Answer) → Legal h → MayLackMemory (out_load h shape) r → k ≡ after_load h shape r
    → vs ≡ units_if (is_some (recorded r)) us unit → Loaded h.limits (log_of h us) shape unit r (log_of k vs)
loaded_is h k us vs shape unit r l m e is = (
  subst (λ (z : History). MayLackMemory (out_load z shape) r) (sym (rebuilt h us l)) m,
  (λ i. log_of (e i) (is i)) ∙ loaded_log (is_some (recorded r)) h us shape unit,
)

more_units : (b : Bool) (us vs : List UnitBodies) (unit : UnitBodies) → b ≡ true → vs ≡ us ++ unit ∷ [] → vs ≡ units_if b us unit
more_units true us vs unit e is = is
more_units false us vs unit e is = absurd (cc e)

same_units : (b : Bool) (us : List UnitBodies) (unit : UnitBodies) → b ≡ false → us ≡ units_if b us unit
same_units true us unit e = absurd (cc e)
same_units false us unit e = refl

-- a load that was recorded, and one that wasn't
pub loaded_more : (h k : History) (us vs : List UnitBodies) (shape : Shape) (unit : UnitBodies) (r : Answer) → Legal h → MayLackMemory (out_load h shape) r → k ≡ after_load h shape r
    → is_some (recorded r) ≡ true → vs ≡ us ++ unit ∷ [] → Loaded h.limits (log_of h us) shape unit r (log_of k vs)
loaded_more h k us vs shape unit r l m e b is = loaded_is h k us vs shape unit r l m e (more_units (is_some (recorded r)) us vs unit b is)

pub loaded_same : (h k : History) (us : List UnitBodies) (shape : Shape) (unit : UnitBodies) (r : Answer) → Legal h → MayLackMemory (out_load h shape) r → k ≡ after_load h shape r
    → is_some (recorded r) ≡ false → Loaded h.limits (log_of h us) shape unit r (log_of k us)
loaded_same h k us shape unit r l m e b = loaded_is h k us us shape unit r l m e (same_units (is_some (recorded r)) us unit b)

-- one that there was no memory for is a load that wasn't accepted
pub unloaded_loaded : (c : Limits) (log after : List Event) (shape : Shape) (unit : UnitBodies) (r : Answer) → Unloaded c log shape r after → Loaded c log shape unit r after
unloaded_loaded c log after shape unit r d = (d.0, d.2 ∙ ap (λ (z : Option Recorded). if is_some z then log ++ Loads shape (Some unit) ∷ [] else log) (sym d.1))

-- the same of one whose calls fit, and of one that wasn't accepted, whether they do or not
pub loaded_if : (fits : Bool) (c : Limits) (log after : List Event) (shape : Shape) (unit : UnitBodies) (r : Answer) → fits ≡ true → Loaded c log shape unit r after → LoadedIf fits c log shape unit r after
loaded_if true c log after shape unit r e d = d
loaded_if false c log after shape unit r e d = absurd (cc e)

pub unloaded_if : (fits : Bool) (c : Limits) (log after : List Event) (shape : Shape) (unit : UnitBodies) (r : Answer) → Unloaded c log shape r after → LoadedIf fits c log shape unit r after
unloaded_if true c log after shape unit r d = unloaded_loaded c log after shape unit r d
unloaded_if false c log after shape unit r d = d

-- The calls of all bodies fit the units that are loaded

all_first : {A : Type 0} (p : A → Bool) (xs ys : List A) → list_all p (xs ++ ys) ≡ true → list_all p xs ≡ true
all_first p [] ys e = refl
all_first p (x ∷ xs) ys e = both_hold (p x) (list_all p xs) (first_of_both (p x) (list_all p (xs ++ ys)) e) (all_first p xs ys (second_of_both (p x) (list_all p (xs ++ ys)) e))

all_second : {A : Type 0} (p : A → Bool) (xs ys : List A) → list_all p (xs ++ ys) ≡ true → list_all p ys ≡ true
all_second p [] ys e = e
all_second p (x ∷ xs) ys e = all_second p xs ys (second_of_both (p x) (list_all p (xs ++ ys)) e)

all_both : {A : Type 0} (p : A → Bool) (xs ys : List A) → list_all p xs ≡ true → list_all p ys ≡ true → list_all p (xs ++ ys) ≡ true
all_both p [] ys e f = f
all_both p (x ∷ xs) ys e f = both_hold (p x) (list_all p (xs ++ ys)) (first_of_both (p x) (list_all p xs) e) (all_both p xs ys (second_of_both (p x) (list_all p xs) e) f)

-- the bodies of objects, and of those that stand behind them
objects_both : (such : Callee → Bool) (number : ℕ) (xs ys : List (List Code.Body)) → objects_call such number xs ≡ true → objects_call such (number + length xs) ys ≡ true → objects_call such number (xs ++ ys) ≡ true
objects_both such number [] ys e f = let same : number ≡ number + 0 = omega arith in ap (λ (n : ℕ). objects_call such n ys) same ∙ f
objects_both such number (x ∷ xs) ys e f =
    let same : number + 1 + length xs ≡ number + suc (length xs) = omega arith in
    both_hold (object_calls (such_in such number) x) (objects_call such (number + 1) (xs ++ ys))
    (first_of_both (object_calls (such_in such number) x) (objects_call such (number + 1) xs) e)
    (objects_both such (number + 1) xs ys (second_of_both (object_calls (such_in such number) x) (objects_call such (number + 1) xs) e)
    (ap (λ (n : ℕ). objects_call such n ys) same ∙ f))

objects_first : (such : Callee → Bool) (number : ℕ) (xs ys : List (List Code.Body)) → objects_call such number (xs ++ ys) ≡ true → objects_call such number xs ≡ true
objects_first such number [] ys e = refl
objects_first such number (x ∷ xs) ys e =
    both_hold (object_calls (such_in such number) x) (objects_call such (number + 1) xs)
    (first_of_both (object_calls (such_in such number) x) (objects_call such (number + 1) (xs ++ ys)) e)
    (objects_first such (number + 1) xs ys (second_of_both (object_calls (such_in such number) x) (objects_call such (number + 1) (xs ++ ys)) e))

objects_second : (such : Callee → Bool) (number : ℕ) (xs ys : List (List Code.Body)) → objects_call such number (xs ++ ys) ≡ true → objects_call such (number + length xs) ys ≡ true
objects_second such number [] ys e = let same : number + 0 ≡ number = omega arith in ap (λ (n : ℕ). objects_call such n ys) same ∙ e
objects_second such number (x ∷ xs) ys e =
    let same : number + suc (length xs) ≡ number + 1 + length xs = omega arith in
    ap (λ (n : ℕ). objects_call such n ys) same
    ∙ objects_second such (number + 1) xs ys (second_of_both (object_calls (such_in such number) x) (objects_call such (number + 1) (xs ++ ys)) e)

joined_call : (such : Callee → Bool) (number : ℕ) (u v : Code.UnitBodies) → calls_from such number u ≡ true → calls_from such (number + length u.objects) v ≡ true → calls_from such number (record { objects = u.objects ++ v.objects; tasks = u.tasks ++ v.tasks }) ≡ true
joined_call such number u v e f =
    let own : Option Code.Body → Bool = task_calls (such_in such 0) in
    let next : ℕ = number + length u.objects in
    both_hold (objects_call such number (u.objects ++ v.objects)) (list_all own (u.tasks ++ v.tasks))
    (objects_both such number u.objects v.objects (first_of_both (objects_call such number u.objects) (list_all own u.tasks) e) (first_of_both (objects_call such next v.objects) (list_all own v.tasks) f))
    (all_both own u.tasks v.tasks (second_of_both (objects_call such number u.objects) (list_all own u.tasks) e) (second_of_both (objects_call such next v.objects) (list_all own v.tasks) f))

parts_call : (such : Callee → Bool) (number : ℕ) (u v : Code.UnitBodies) → calls_from such number (record { objects = u.objects ++ v.objects; tasks = u.tasks ++ v.tasks }) ≡ true → (calls_from such number u ≡ true) × (calls_from such (number + length u.objects) v ≡ true)
parts_call such number u v e =
    let own : Option Code.Body → Bool = task_calls (such_in such 0) in
    let next : ℕ = number + length u.objects in
    let objects = first_of_both (objects_call such number (u.objects ++ v.objects)) (list_all own (u.tasks ++ v.tasks)) e in
    let tasks = second_of_both (objects_call such number (u.objects ++ v.objects)) (list_all own (u.tasks ++ v.tasks)) e in (
      both_hold (objects_call such number u.objects) (list_all own u.tasks) (objects_first such number u.objects v.objects objects) (all_first own u.tasks v.tasks tasks),
      both_hold (objects_call such next v.objects) (list_all own v.tasks) (objects_second such number u.objects v.objects objects) (all_second own u.tasks v.tasks tasks),
    )

units_call : (such : Callee → Bool) (number : ℕ) (us vs : List Code.UnitBodies) → calls_from such number (all_of us) ≡ true → calls_from such (number + length (all_of us).objects) (all_of vs) ≡ true → calls_from such number (all_of (us ++ vs)) ≡ true
units_call such number [] vs e f = let same : number ≡ number + 0 = omega arith in ap (λ (n : ℕ). calls_from such n (all_of vs)) same ∙ f
units_call such number (u ∷ us) vs e f =
    let parts = parts_call such number u (all_of us) e in
    let same : number + length u.objects + length (all_of us).objects ≡ number + length (u.objects ++ (all_of us).objects) = omega (arith, length-append u.objects (all_of us).objects) in
    joined_call such number u (all_of (us ++ vs)) parts.0
    (units_call such (number + length u.objects) us vs parts.1 (ap (λ (n : ℕ). calls_from such n (all_of vs)) same ∙ f))

one_calls : (such : Callee → Bool) (number : ℕ) (u : Code.UnitBodies) → calls_from such number u ≡ true → calls_from such number (all_of (u ∷ [])) ≡ true
one_calls such number u e = joined_call such number u (all_of []) e refl

same_number : (a b : ℕ) → (a == b) ≡ true → a ≡ b
same_number a b e = grind (arith, nat_tests)

-- units whose bodies are numbered as their shapes have bodies of as many objects
counted : (shapes : List Shape) (us : List Code.UnitBodies) → all_numbered shapes us ≡ true → length (all_of us).objects ≡ length (all_objects shapes)
counted [] [] e = refl
counted [] (u ∷ us) e = absurd (cc e)
counted (s ∷ ss) [] e = absurd (cc e)
counted (s ∷ ss) (u ∷ us) e =
    let here : numbered_as s u ≡ true = first_of_both (numbered_as s u) (all_numbered ss us) e in
    let same : length u.objects ≡ length s.objects = same_number (length u.objects) (length s.objects) (first_of_both (length u.objects == length s.objects) (length u.tasks == length s.tasks) here) in
    let rest : length (all_of us).objects ≡ length (all_objects ss) = counted ss us (second_of_both (numbered_as s u) (all_numbered ss us) e) in
    let seat : Object → UnitObject = λ object. record { unit = s.name; object = object } in
    let many : length (objects_of s) ≡ length s.objects = length-map s.objects seat in
    let ours : length (all_of (u ∷ us)).objects ≡ length u.objects + length (all_of us).objects = length-append u.objects (all_of us).objects in
    let theirs : length (all_objects (s ∷ ss)) ≡ length (objects_of s) + length (all_objects ss) = length-append (objects_of s) (all_objects ss) in
    omega (arith, ours, theirs, same, rest, many)

view_is : (bodies : Bodies) → bodies_view bodies ≡ all_of (map unit_view (units_of bodies))
view_is bodies = ap all_of (views_of bodies.units.items)

views_more : (us : List UnitBodies) (unit : UnitBodies) → map unit_view (us ++ unit ∷ []) ≡ map unit_view us ++ unit_view unit ∷ []
views_more [] unit = refl
views_more (u ∷ us) unit = ap (λ (z : List Code.UnitBodies). unit_view u ∷ z) (views_more us unit)

shapes_same : (b : Bool) (h : History) (shape : Shape) → b ≡ false → (if b then record h { past = Load ∷ h.past; shapes = h.shapes ++ shape ∷ [] } else h).shapes ≡ h.shapes
shapes_same true h shape e = absurd (cc e)
shapes_same false h shape e = refl

shapes_more : (b : Bool) (h : History) (shape : Shape) → b ≡ true → (if b then record h { past = Load ∷ h.past; shapes = h.shapes ++ shape ∷ [] } else h).shapes ≡ h.shapes ++ shape ∷ []
shapes_more true h shape e = refl
shapes_more false h shape e = absurd (cc e)

-- no bodies call anything
pub none_fit : (all shapes : List Shape) (bodies : Bodies) → map unit_view (units_of bodies) ≡ map Code.without_bodies shapes → calls_fit all (bodies_view bodies) ≡ true
none_fit all shapes bodies none = ap (λ (z : Code.UnitBodies). calls_fit all z) (view_is bodies ∙ ap all_of none) ∙ each 1 shapes where
  each : (number : ℕ) (ss : List Shape) → calls_from (callee_fits all) number (all_of (map Code.without_bodies ss)) ≡ true
  each number [] = refl
  each number (s ∷ ss) =
      joined_call (callee_fits all) number (Code.without_bodies s) (all_of (map Code.without_bodies ss)) (alone_calls (callee_fits all) number s)
      (each (number + length (Code.without_bodies s).objects) ss)

-- or keep anything
pub none_ranged : (all shapes : List Shape) (bodies : Bodies) → map unit_view (units_of bodies) ≡ map Code.without_bodies shapes → catalogue_ranged all (bodies_view bodies) ≡ true
none_ranged all shapes bodies none = ap (λ (z : Code.UnitBodies). catalogue_ranged all z) (view_is bodies ∙ ap all_of none) ∙ units_alone all shapes

-- they were found to fit
pub fits_found : (h : History) (bodies : Bodies) (shape : Shape) (unit : UnitBodies) (r : Bool) → Legal h → r ≡ are_of h.shapes shape (unit_view unit) → r ≡ true
    → fits_behind (log_in h bodies) shape unit ≡ true
fits_found h bodies shape unit r l is e = ap (λ (z : List Shape). are_of z shape (unit_view unit)) (catalogue_log h (units_of bodies) l) ∙ (sym is ∙ e)

-- those of one more unit fit too
pub one_more_fits : (shapes : List Shape) (shape : Shape) (us : List UnitBodies) (unit : UnitBodies) → all_numbered shapes (map unit_view us) ≡ true → calls_fit shapes (all_of (map unit_view us)) ≡ true
    → unit_calls_fit shapes shape (unit_view unit) ≡ true → calls_fit (shapes ++ shape ∷ []) (all_of (map unit_view (us ++ unit ∷ []))) ≡ true
one_more_fits shapes shape us unit numbered old new =
    let all : List Shape = shapes ++ shape ∷ [] in
    let many : length (all_of (map unit_view us)).objects ≡ length (all_objects shapes) = counted shapes (map unit_view us) numbered in
    let first : 1 + length (all_of (map unit_view us)).objects ≡ length (all_objects shapes) + 1 = omega (arith, many) in
    ap (λ (z : List Code.UnitBodies). calls_fit all (all_of z)) (views_more us unit)
    ∙ units_call (callee_fits all) 1 (map unit_view us) (unit_view unit ∷ []) (calls_keep shapes (shape ∷ []) (all_of (map unit_view us)) old)
    (one_calls (callee_fits all) (1 + length (all_of (map unit_view us)).objects) (unit_view unit) (ap (λ (n : ℕ). calls_from (callee_fits all) n (unit_view unit)) first ∙ new))

fits_more : (h k : History) (bodies more : Bodies) (shape : Shape) (unit : UnitBodies) (r : Answer) → all_numbered h.shapes (map unit_view (units_of bodies)) ≡ true → calls_fit h.shapes (bodies_view bodies) ≡ true
    → unit_calls_fit h.shapes shape (unit_view unit) ≡ true → k ≡ after_load h shape r
    → is_some (recorded r) ≡ true → units_of more ≡ units_of bodies ++ unit ∷ [] → calls_fit k.shapes (bodies_view more) ≡ true
fits_more h k bodies more shape unit r numbered old new e b is =
    let these : calls_fit h.shapes (all_of (map unit_view (units_of bodies))) ≡ true = ap (λ (z : Code.UnitBodies). calls_fit h.shapes z) (sym (view_is bodies)) ∙ old in
    (λ i. calls_fit ((ap (λ (z : History). z.shapes) e ∙ shapes_more (is_some (recorded r)) h shape b) i) ((view_is more ∙ ap (λ (z : List UnitBodies). all_of (map unit_view z)) is) i))
    ∙ one_more_fits h.shapes shape (units_of bodies) unit numbered these new

-- and they keep to their ranges
pub one_more_ranged : (shapes : List Shape) (shape : Shape) (us : List UnitBodies) (unit : UnitBodies) → all_numbered shapes (map unit_view us) ≡ true → catalogue_ranged shapes (all_of (map unit_view us)) ≡ true
    → ranges_fit (shapes ++ shape ∷ []) shape.objects (unit_view unit) ≡ true → catalogue_ranged (shapes ++ shape ∷ []) (all_of (map unit_view (us ++ unit ∷ []))) ≡ true
one_more_ranged shapes shape us unit numbered old new =
    ap (λ (z : List Code.UnitBodies). catalogue_ranged (shapes ++ shape ∷ []) (all_of z)) (views_more us unit)
    ∙ units_ranged shapes shape (map unit_view us) (unit_view unit) (counted shapes (map unit_view us) numbered) old new

ranges_more : (h k : History) (bodies more : Bodies) (shape : Shape) (unit : UnitBodies) (r : Answer) → all_numbered h.shapes (map unit_view (units_of bodies)) ≡ true → catalogue_ranged h.shapes (bodies_view bodies) ≡ true
    → ranges_fit (h.shapes ++ shape ∷ []) shape.objects (unit_view unit) ≡ true → k ≡ after_load h shape r
    → is_some (recorded r) ≡ true → units_of more ≡ units_of bodies ++ unit ∷ [] → catalogue_ranged k.shapes (bodies_view more) ≡ true
ranges_more h k bodies more shape unit r numbered old new e b is =
    let these : catalogue_ranged h.shapes (all_of (map unit_view (units_of bodies))) ≡ true = ap (λ (z : Code.UnitBodies). catalogue_ranged h.shapes z) (sym (view_is bodies)) ∙ old in
    (λ i. catalogue_ranged ((ap (λ (z : History). z.shapes) e ∙ shapes_more (is_some (recorded r)) h shape b) i) ((view_is more ∙ ap (λ (z : List UnitBodies). all_of (map unit_view z)) is) i))
    ∙ one_more_ranged h.shapes shape (units_of bodies) unit numbered these new

-- bodies that the same units are loaded with
ranges_same : (h k : History) (bodies : Bodies) → catalogue_ranged h.shapes (bodies_view bodies) ≡ true → k.shapes ≡ h.shapes → catalogue_ranged k.shapes (bodies_view bodies) ≡ true
ranges_same h k bodies old e = ap (λ (z : List Shape). catalogue_ranged z (bodies_view bodies)) e ∙ old

fits_same : (h k : History) (bodies : Bodies) (shape : Shape) (r : Answer) → calls_fit h.shapes (bodies_view bodies) ≡ true → k ≡ after_load h shape r → is_some (recorded r) ≡ false → calls_fit k.shapes (bodies_view bodies) ≡ true
fits_same h k bodies shape r fit e b = ap (λ (z : List Shape). calls_fit z (bodies_view bodies)) (ap (λ (z : History). z.shapes) e ∙ shapes_same (is_some (recorded r)) h shape b) ∙ fit

fits_step : (h k : History) (bodies : Bodies) (a : ℕ) (q : Request) (r : Answer) → calls_fit h.shapes (bodies_view bodies) ≡ true → k ≡ legal.after h a q r → calls_fit k.shapes (bodies_view bodies) ≡ true
fits_step h k bodies a q r fit e = ap (λ (z : List Shape). calls_fit z (bodies_view bodies)) (step_shapes h k a q r e) ∙ fit

-- as many shapes as bodies of units, before and after
shapes_if : (b : Bool) (h : History) (us : List UnitBodies) (shape : Shape) (unit : UnitBodies) → length us ≡ length h.shapes
    → length (units_if b us unit) ≡ length (if b then record h { past = Load ∷ h.past; shapes = h.shapes ++ shape ∷ [] } else h).shapes
shapes_if true h us shape unit e = omega (arith, e, length-append us (unit ∷ []), length-append h.shapes (shape ∷ []))
shapes_if false h us shape unit e = e

brought_more : (h k : History) (us vs : List UnitBodies) (shape : Shape) (unit : UnitBodies) (r : Answer) → length us ≡ length h.shapes → k ≡ after_load h shape r
    → is_some (recorded r) ≡ true → vs ≡ us ++ unit ∷ [] → length vs ≡ length k.shapes
brought_more h k us vs shape unit r some e b is =
    ap length (more_units (is_some (recorded r)) us vs unit b is) ∙ (shapes_if (is_some (recorded r)) h us shape unit some ∙ sym (ap (λ (z : History). length z.shapes) e))

brought_same : (h k : History) (us : List UnitBodies) (shape : Shape) (r : Answer) → length us ≡ length h.shapes → k ≡ after_load h shape r
    → is_some (recorded r) ≡ false → length us ≡ length k.shapes
brought_same h k us shape r some e b = some ∙ sym (ap (λ (z : History). length z.shapes) e ∙ unchanged (is_some (recorded r)) b) where
  unchanged : (b : Bool) → b ≡ false → length (if b then record h { past = Load ∷ h.past; shapes = h.shapes ++ shape ∷ [] } else h).shapes ≡ length h.shapes
  unchanged true e = absurd (cc e)
  unchanged false e = refl

brought_step : (h k : History) (us : List UnitBodies) (a : ℕ) (q : Request) (r : Answer) → length us ≡ length h.shapes → k ≡ legal.after h a q r → length us ≡ length k.shapes
brought_step h k us a q r some e = some ∙ sym (ap length (step_shapes h k a q r e))

listed_shapes : (b : Bool) (list : Option (List Words)) (h : History) → (if b then legal.listed h list else h).shapes ≡ h.shapes
listed_shapes true None h = refl
listed_shapes true (Some list) h = refl
listed_shapes false list h = refl

listed_limits : (is_kept : Bool) (list : Option (List Words)) (h : History) → (if is_kept then legal.listed h list else h).limits ≡ h.limits
listed_limits true None h = refl
listed_limits true (Some list) h = refl
listed_limits false list h = refl

-- a change of the list leaves the limits
pub changed_limits : (h k : History) (change : Change) (r : Answer) → k ≡ after_change h change r → k.limits ≡ h.limits
changed_limits h k change r e = ap (λ (z : History). z.limits) e ∙ listed_limits (is_some (recorded r)) (changed (force h) change) h

brought_change : (h k : History) (us : List UnitBodies) (change : Change) (r : Answer) → length us ≡ length h.shapes → k ≡ after_change h change r → length us ≡ length k.shapes
brought_change h k us change r some e = some ∙ sym (ap length (ap (λ (z : History). z.shapes) e ∙ listed_shapes (is_some (recorded r)) (changed (force h) change) h))

fits_change : (h k : History) (bodies : Bodies) (change : Change) (r : Answer) → calls_fit h.shapes (bodies_view bodies) ≡ true → k ≡ after_change h change r → calls_fit k.shapes (bodies_view bodies) ≡ true
fits_change h k bodies change r fit e =
    ap (λ (z : List Shape). calls_fit z (bodies_view bodies)) (ap (λ (z : History). z.shapes) e ∙ listed_shapes (is_some (recorded r)) (changed (force h) change) h) ∙ fit

-- Each unit's bodies are numbered as its shape is

numbered_both : (shapes : List Shape) (shape : Shape) (us : List Code.UnitBodies) (u : Code.UnitBodies) → all_numbered shapes us ≡ true → numbered_as shape u ≡ true → all_numbered (shapes ++ shape ∷ []) (us ++ u ∷ []) ≡ true
numbered_both [] shape [] u old new = both_hold (numbered_as shape u) true new refl
numbered_both [] shape (v ∷ us) u old new = absurd (cc old)
numbered_both (s ∷ ss) shape [] u old new = absurd (cc old)
numbered_both (s ∷ ss) shape (v ∷ us) u old new =
    both_hold (numbered_as s v) (all_numbered (ss ++ shape ∷ []) (us ++ u ∷ [])) (first_of_both (numbered_as s v) (all_numbered ss us) old)
    (numbered_both ss shape us u (second_of_both (numbered_as s v) (all_numbered ss us) old) new)

pub one_more_numbered : (shapes : List Shape) (shape : Shape) (us : List UnitBodies) (unit : UnitBodies) → all_numbered shapes (map unit_view us) ≡ true → numbered_as shape (unit_view unit) ≡ true
    → all_numbered (shapes ++ shape ∷ []) (map unit_view (us ++ unit ∷ [])) ≡ true
one_more_numbered shapes shape us unit old new =
    ap (λ (z : List Code.UnitBodies). all_numbered (shapes ++ shape ∷ []) z) (views_more us unit) ∙ numbered_both shapes shape (map unit_view us) (unit_view unit) old new

-- a shape alone is numbered as it is
alone_numbered : (s : Shape) → numbered_as s (Code.without_bodies s) ≡ true
alone_numbered s =
    both_hold (eqb (length (Code.without_bodies s).objects) (length s.objects)) (eqb (length (Code.without_bodies s).tasks) (length s.tasks))
    (eq-eqb (length (Code.without_bodies s).objects) (length s.objects) (length-replicate (length s.objects) []))
    (eq-eqb (length (Code.without_bodies s).tasks) (length s.tasks) (length-replicate (length s.tasks) None))

pub none_numbered : (shapes : List Shape) (bodies : Bodies) → map unit_view (units_of bodies) ≡ map Code.without_bodies shapes → all_numbered shapes (map unit_view (units_of bodies)) ≡ true
none_numbered shapes bodies none = ap (λ (z : List Code.UnitBodies). all_numbered shapes z) none ∙ each shapes where
  each : (ss : List Shape) → all_numbered ss (map Code.without_bodies ss) ≡ true
  each [] = refl
  each (s ∷ ss) = both_hold (numbered_as s (Code.without_bodies s)) (all_numbered ss (map Code.without_bodies ss)) (alone_numbered s) (each ss)

numbered_more : (h k : History) (bodies more : Bodies) (shape : Shape) (unit : UnitBodies) (r : Answer) → all_numbered h.shapes (map unit_view (units_of bodies)) ≡ true → numbered_as shape (unit_view unit) ≡ true → k ≡ after_load h shape r
    → is_some (recorded r) ≡ true → units_of more ≡ units_of bodies ++ unit ∷ [] → all_numbered k.shapes (map unit_view (units_of more)) ≡ true
numbered_more h k bodies more shape unit r old new e b is =
    (λ i. all_numbered ((ap (λ (z : History). z.shapes) e ∙ shapes_more (is_some (recorded r)) h shape b) i) (map unit_view (is i)))
    ∙ one_more_numbered h.shapes shape (units_of bodies) unit old new

numbered_same : (h k : History) (bodies : Bodies) → all_numbered h.shapes (map unit_view (units_of bodies)) ≡ true → k.shapes ≡ h.shapes → all_numbered k.shapes (map unit_view (units_of bodies)) ≡ true
numbered_same h k bodies old e = ap (λ (z : List Shape). all_numbered z (map unit_view (units_of bodies))) e ∙ old

-- all four, after what the host does
pub brings_more : (h k : History) (bodies more : Bodies) (shape : Shape) (unit : UnitBodies) (r : Answer) → Legal h → AreBrought h bodies → fits_behind (log_in h bodies) shape unit ≡ true → k ≡ after_load h shape r
    → is_some (recorded r) ≡ true → units_of more ≡ units_of bodies ++ unit ∷ [] → AreBrought k more
brings_more h k bodies more shape unit r l b new e kept is =
    let these : are_of h.shapes shape (unit_view unit) ≡ true = ap (λ (z : List Shape). are_of z shape (unit_view unit)) (sym (catalogue_log h (units_of bodies) l)) ∙ new in
    record {
      count = brought_more h k (units_of bodies) (units_of more) shape unit r b.count e kept is;
      numbered = numbered_more h k bodies more shape unit r b.numbered (numbered_found h.shapes shape (unit_view unit) these) e kept is;
      fit = fits_more h k bodies more shape unit r b.numbered b.fit (calls_found h.shapes shape (unit_view unit) these) e kept is;
      ranged = ranges_more h k bodies more shape unit r b.numbered b.ranged (ranges_found h.shapes shape (unit_view unit) these) e kept is;
    }

pub brings_same : (h k : History) (bodies : Bodies) (shape : Shape) (r : Answer) → AreBrought h bodies → k ≡ after_load h shape r → is_some (recorded r) ≡ false → AreBrought k bodies
brings_same h k bodies shape r b e kept =
    let same : k.shapes ≡ h.shapes = ap (λ (z : History). z.shapes) e ∙ shapes_same (is_some (recorded r)) h shape kept in
    record { count = brought_same h k (units_of bodies) shape r b.count e kept; numbered = numbered_same h k bodies b.numbered same; fit = fits_same h k bodies shape r b.fit e kept; ranged = ranges_same h k bodies b.ranged same }

pub brings_step : (h k : History) (bodies : Bodies) (a : ℕ) (q : Request) (r : Answer) → AreBrought h bodies → k ≡ legal.after h a q r → AreBrought k bodies
brings_step h k bodies a q r b e =
    let same : k.shapes ≡ h.shapes = step_shapes h k a q r e in
    record { count = brought_step h k (units_of bodies) a q r b.count e; numbered = numbered_same h k bodies b.numbered same; fit = fits_step h k bodies a q r b.fit e; ranged = ranges_same h k bodies b.ranged same }

pub brings_change : (h k : History) (bodies : Bodies) (change : Change) (r : Answer) → AreBrought h bodies → k ≡ after_change h change r → AreBrought k bodies
brings_change h k bodies change r b e =
    let same : k.shapes ≡ h.shapes = ap (λ (z : History). z.shapes) e ∙ listed_shapes (is_some (recorded r)) (changed (force h) change) h in
    record { count = brought_change h k (units_of bodies) change r b.count e; numbered = numbered_same h k bodies b.numbered same; fit = fits_change h k bodies change r b.fit e; ranged = ranges_same h k bodies b.ranged same }

-- a load that is due to be recorded is due to be accepted
gate_kept : (b c d : Bool) → is_some (recorded (gate b c (within d nothing_more))) ≡ true → gate b c (within d nothing_more) ≡ nothing_more
gate_kept true false true e = refl
gate_kept true false false e = absurd (cc e)
gate_kept true true d e = absurd (cc e)
gate_kept false c d e = absurd (cc e)

load_kept : (h : History) (shape : Shape) → is_some (recorded (out_load h shape)) ≡ true → out_load h shape ≡ nothing_more
load_kept h shape e = gate_kept (shape_fits h.shapes shape) (halted h.past) (has_room h.limits.capacity (h.shapes ++ shape ∷ []) (Load ∷ h.past)) e

not_kept : (r : Option Recorded) → is_some r ≡ false → r ≡ None
not_kept None e = refl
not_kept (Some w) e = absurd (cc e)

-- a load that there is no memory for
pub unloaded_due : (h : History) (us : List UnitBodies) (shape : Shape) (r : Answer) → Legal h → r ≡ out_load h shape → is_some (recorded r) ≡ false → Unloaded h.limits (log_of h us) shape r (log_of h us)
unloaded_due h us shape r l is e =
    (subst (λ (z : History). MayLackMemory (out_load z shape) r) (sym (rebuilt h us l)) (inl is), not_kept (recorded r) e, refl)

pub unloaded_lack : (h : History) (us : List UnitBodies) (shape : Shape) (r : Answer) → Legal h → r ≡ out_load h shape → is_some (recorded r) ≡ true → Unloaded h.limits (log_of h us) shape OutOfMemory (log_of h us)
unloaded_lack h us shape r l is e = (
  subst (λ (z : History). MayLackMemory (out_load z shape) OutOfMemory) (sym (rebuilt h us l)) (inr (refl, load_kept h shape (ap (λ (z : Answer). is_some (recorded z)) (sym is) ∙ e))),
  refl,
  refl,
)

listed_log : (list : Option (List Words)) (h : History) (us : List UnitBodies) → log_of (legal.listed h list) us ≡ listed (log_of h us) list
listed_log None h us = refl
listed_log (Some list) h us =
    ap reverse (λ i. events (ListChange ∷ h.past) (reverse h.shapes) (reverse us) (newest (h.lists ++ list ∷ []) h.lists list refl i))
    ∙ one_more (back_of h us) (Lists list)

changed_log : (b : Bool) (list : Option (List Words)) (h : History) (us : List UnitBodies)
    → log_of (if b then legal.listed h list else h) us ≡ (if b then listed (log_of h us) list else log_of h us)
changed_log true list h us = listed_log list h us
changed_log false list h us = refl

pub changed_is : (h k : History) (us : List UnitBodies) (change : Change) (r : Answer) → Legal h → MayLackMemory (due_change h change) r → k ≡ after_change h change r
    → Changed h.limits (log_of h us) change r (log_of k us)
changed_is h k us change r l m e = let same : h ≡ history_at h.limits (log_of h us) = sym (rebuilt h us l) in (
  subst (λ (z : History). MayLackMemory (due_change z change) r) same m,
  ap (λ (z : History). log_of z us) e ∙ changed_log (is_some (recorded r)) (changed (force h) change) h us
      ∙ ap (λ (z : History). changed_to (log_of h us) (changed (force z) change) r) same,
)

-- an ask of an actor
pub does_ask : (h : History) (bodies : Bodies) (a : ℕ) (ask wanted : Ask) (reply : Reply) (after : List Event) → ask ≡ wanted → Legal h → AreBrought h bodies → Due h.limits (log_in h bodies) a wanted reply after
    → Does h.limits (log_in h bodies) a ask reply after
does_ask h bodies a ask wanted reply after is l b d = subst (λ (z : Ask). Does h.limits (log_in h bodies) a z reply after) (sym is) (legal_log h (units_of bodies) l, fits_log h bodies l b, d)

-- what only the operator may ask
misused : (b : Bool) (does : Type 0) (log : List Event) → b ≡ false → IfOperator b does Misuse log log
misused true does log e = absurd (cc e)
misused false does log e = (refl, refl)

misused_due : (c : Limits) (log : List Event) (a : ℕ) (ask : Ask) (b : Begun) → changes ask ≡ true → eqb a 0 ≡ false → Due c log a ask (Gives.Answered Misuse b None) log
misused_due c log a (Wants.Load s unit) b t e = misused (eqb a 0) _ log e
misused_due c log a (Wants.LoadWithoutMemory s) b t e = misused (eqb a 0) _ log e
misused_due c log a (Wants.Change s) b t e = misused (eqb a 0) _ log e
misused_due c log a ask b t e = absurd (cc t)

pub does_misuse : (h : History) (bodies : Bodies) (a : ℕ) (ask : Ask) (b : Begun) → changes ask ≡ true → Legal h → AreBrought h bodies → (a ≡ 0 → ⊥)
    → Does h.limits (log_in h bodies) a ask (Gives.Answered Misuse b None) (log_in h bodies)
does_misuse h bodies a ask b t l kept n = (legal_log h (units_of bodies) l, fits_log h bodies l kept, misused_due h.limits (log_in h bodies) a ask b t (ne_eqb a 0 n))
