-- Where tasks and objects stand, once a unit is added, and what is found there.
use Rattle.std.proofs.Common.{◌≡◌, ℕ, suc, ◌+◌, ◌-◌, ◌<◌, ◌≤◌, List, [], ◌∷◌, ◌++◌, length, map, Some, None, Option, Bool, true, false, arith, ap, subst, sym, ◌∙◌, refl, ◌≢◌, get_or, set, append_assoc, append-nil, length-append}
use Rattle.std.specs.Prelude.{◌==◌, nat_lt, if◌then◌else◌, slice_get}
use Rattle.std.specs.List.{flat_map}
use Rattle.std.specs.Option.{option_map}
use Rattle.std.proofs.lemmas.List.{length-map, map-append, get_or-set_other}
use Rattle.std.proofs.lemmas.Grind.{get_or-set_at}
use Rattle.std.proofs.lemmas.Option.{slice_get-map}
use Rattle.std.proofs.lemmas.Bool.Decides.{nat_tests}
use Rattle.rv_shape.specs.Objects.{TaskShape}
use Rattle.rv_shape.specs.declared.object.Object.{Object}
use Rattle.rv_shape.specs.Shape.{Shape}
use Rattle.rv_shape.specs.Catalogue.{UnitTask, UnitObject, OperationNumber, numbered, place, tasks_of, objects_of, all_tasks}
use Rattle.rv_shape.specs.Readers.{actor_task, unit_named}
use Rattle.rv_shape.specs.Places.{operation_of, part_at, part_in, places, places_from}
use Rattle.rv_shape.specs.declared.catalogue.places.Place.{Place}

-- one part more of a unit
pub part_step : (unit part parts : ℕ) → part < parts →
    places_from unit part (parts - part) ≡ record { unit = unit; part = part } ∷ places_from unit (part + 1) (parts - (part + 1))
part_step unit part parts within = ap (places_from unit part) (let e : parts - part ≡ suc (parts - (part + 1)) = omega (arith, within) in e)

-- one unit more

pub places_more : {X : Type 0} (parts : Shape → List X) (n : ℕ) (shapes : List Shape) (s : Shape) →
    places parts n (shapes ++ s ∷ []) ≡ places parts n shapes ++ places_from (n + length shapes) 0 (length (parts s))
places_more parts n [] s =
    append-nil (places_from n 0 (length (parts s))) ∙ ap (λ m. places_from m 0 (length (parts s))) (omega arith)
places_more parts n (shape ∷ shapes) s =
    ap (λ ps. places_from n 0 (length (parts shape)) ++ ps) (places_more parts (n + 1) shapes s)
    ∙ sym (append_assoc (places_from n 0 (length (parts shape))) (places parts (n + 1) shapes) (places_from (n + 1 + length shapes) 0 (length (parts s))))
    ∙ ap (λ m. (places_from n 0 (length (parts shape)) ++ places parts (n + 1) shapes) ++ places_from m 0 (length (parts s))) (omega arith)

-- what stands at the places

get_at : {X : Type 0} (front : List X) (x : X) (back : List X) → slice_get (front ++ x ∷ back) (length front) ≡ Some x
get_at [] x back = refl
get_at (y ∷ front) x back = get_at front x back

numbered_next : {X : Type 0} (xs : List X) (n k : ℕ) → n ≡ k + 1 → numbered xs n ≡ slice_get xs k
numbered_next xs n k is =
    let some : nat_lt n 1 ≡ false = grind (arith, nat_tests) in
    let before : n - 1 ≡ k = omega (arith, is) in
    λ i. if some i then None else slice_get xs (before i)

numbered_at : {X : Type 0} (front : List X) (x : X) (back : List X) → numbered (front ++ x ∷ back) (1 + length front) ≡ Some x
numbered_at front x back = numbered_next (front ++ x ∷ back) (1 + length front) (length front) (omega arith) ∙ get_at front x back

in_unit : {X : Type 0} (parts : Shape → List X) (all : List Shape) (s : Shape) (unit : ℕ) (front back : List X) →
    numbered all unit ≡ Some s → parts s ≡ front ++ back →
    map (part_at parts all) (places_from unit (length front) (length back)) ≡ map Some back
in_unit parts all s unit front [] at is = refl
in_unit parts all s unit front (x ∷ back) at is =
    let here : part_at parts all (record { unit = unit; part = length front }) ≡ Some x =
    ap (part_in parts (length front)) at ∙ ap (λ xs. slice_get xs (length front)) is ∙ get_at front x back in
    let next : map (part_at parts all) (places_from unit (length (front ++ x ∷ [])) (length back)) ≡ map Some back =
    in_unit parts all s unit (front ++ x ∷ []) back at (is ∙ sym (append_assoc front (x ∷ []) back)) in
    let count : length front + 1 ≡ length (front ++ x ∷ []) = omega (arith, length-append front (x ∷ [])) in
    ap (λ y. y ∷ map (part_at parts all) (places_from unit (length front + 1) (length back))) here
    ∙ ap (λ ys. Some x ∷ ys) (ap (λ n. map (part_at parts all) (places_from unit n (length back))) count ∙ next)

in_units : {X : Type 0} (parts : Shape → List X) (before shapes : List Shape) →
    map (part_at parts (before ++ shapes)) (places parts (1 + length before) shapes) ≡ map Some (flat_map parts shapes)
in_units parts before [] = refl
in_units parts before (s ∷ shapes) =
    let here : map (part_at parts (before ++ s ∷ shapes)) (places_from (1 + length before) 0 (length (parts s))) ≡ map Some (parts s) =
    in_unit parts (before ++ s ∷ shapes) s (1 + length before) [] (parts s) (numbered_at before s shapes) refl in
    let count : 1 + length before + 1 ≡ 1 + length (before ++ s ∷ []) = omega (arith, length-append before (s ∷ [])) in
    let next : map (part_at parts (before ++ s ∷ shapes)) (places parts (1 + length before + 1) shapes) ≡ map Some (flat_map parts shapes) =
    ap (λ n. map (part_at parts (before ++ s ∷ shapes)) (places parts n shapes)) count
    ∙ ap (λ all. map (part_at parts all) (places parts (1 + length (before ++ s ∷ [])) shapes)) (sym (append_assoc before (s ∷ []) shapes))
    ∙ in_units parts (before ++ s ∷ []) shapes in
    map-append (part_at parts (before ++ s ∷ shapes)) (places_from (1 + length before) 0 (length (parts s))) (places parts (1 + length before + 1) shapes)
    ∙ (λ i. here i ++ next i)
    ∙ sym (map-append Some (parts s) (flat_map parts shapes))

count_is : {X : Type 0} (parts : Shape → List X) (shapes : List Shape) → length (places parts 1 shapes) ≡ length (flat_map parts shapes)
count_is parts shapes =
    sym (length-map (places parts 1 shapes) (part_at parts shapes))
    ∙ ap (λ xs. length xs) (in_units parts [] shapes)
    ∙ length-map (flat_map parts shapes) Some

-- as many parts as places are kept of them
pub counted : {X : Type 0} (parts : Shape → List X) (at : List Place) (kept shapes : List Shape) →
    at ≡ places parts 1 kept → kept ≡ shapes → length at ≡ length (flat_map parts shapes)
counted parts at kept shapes are same =
    ap (λ ps. length ps) are ∙ count_is parts kept ∙ ap (λ xs. length (flat_map parts xs)) same

-- a place is that of a part, or there is neither
abbrev pub Stands : {X : Type 0} → (Shape → List X) → List Shape → Option Place → Option X → Type 0
Stands parts shapes at x = option_map (part_at parts shapes) at ≡ option_map Some x

stands_get : {X : Type 0} (parts : Shape → List X) (shapes : List Shape) (k : ℕ) →
    Stands parts shapes (slice_get (places parts 1 shapes) k) (slice_get (flat_map parts shapes) k)
stands_get parts shapes k =
    sym (slice_get-map (part_at parts shapes) (places parts 1 shapes) k)
    ∙ ap (λ xs. slice_get xs k) (in_units parts [] shapes)
    ∙ slice_get-map Some (flat_map parts shapes) k

stands_numbered : {X : Type 0} (parts : Shape → List X) (shapes : List Shape) (n : ℕ) →
    Stands parts shapes (numbered (places parts 1 shapes) n) (numbered (flat_map parts shapes) n)
stands_numbered parts shapes n = by_test (nat_lt n 1)
  where
    by_test : (b : Bool) → Stands parts shapes (if b then None else slice_get (places parts 1 shapes) (n - 1)) (if b then None else slice_get (flat_map parts shapes) (n - 1))
    by_test true = refl
    by_test false = stands_get parts shapes (n - 1)

pub object_stands : (shapes : List Shape) (objects : List Place) (n : ℕ) → objects ≡ places objects_of 1 shapes →
    Stands objects_of shapes (numbered objects n) (place shapes n)
object_stands shapes objects n is = subst (λ ps. Stands objects_of shapes (numbered ps n) (place shapes n)) (sym is) (stands_numbered objects_of shapes n)

-- an actor from 11 on is a task
task_from : (shapes : List Shape) (actor : ℕ) → 11 ≤ actor → actor_task shapes actor ≡ numbered (all_tasks shapes) (actor - 11 + 1)
task_from shapes actor h =
    (let e : actor_task shapes actor ≡ slice_get (all_tasks shapes) (actor - 11) = grind (arith, nat_tests) in e)
    ∙ sym (numbered_next (all_tasks shapes) (actor - 11 + 1) (actor - 11) refl)

pub task_stands : (shapes : List Shape) (tasks : List Place) (actor : ℕ) → 11 ≤ actor → tasks ≡ places tasks_of 1 shapes →
    Stands tasks_of shapes (numbered tasks (actor - 11 + 1)) (actor_task shapes actor)
task_stands shapes tasks actor h is =
    let ours : Stands tasks_of shapes (numbered tasks (actor - 11 + 1)) (numbered (all_tasks shapes) (actor - 11 + 1)) =
    subst (λ ps. Stands tasks_of shapes (numbered ps (actor - 11 + 1)) (numbered (all_tasks shapes) (actor - 11 + 1))) (sym is) (stands_numbered tasks_of shapes (actor - 11 + 1)) in
    subst (λ x. Stands tasks_of shapes (numbered tasks (actor - 11 + 1)) x) (sym (task_from shapes actor h)) ours

-- what is found by a place, if there is one

pub found : {X : Type 0} (parts : Shape → List X) (shapes : List Shape) (at : Option Place) (p : Place) (x : Option X) → at ≡ Some p → Stands parts shapes at x → part_at parts shapes p ≡ x
found parts shapes None p x is e = absurd (cc)
found parts shapes (Some at) p None is e = absurd (cc)
found parts shapes (Some at) p (Some x) is e = ap (part_at parts shapes) (let same : p ≡ at = cc in same) ∙ (let same : part_at parts shapes at ≡ Some x = cc in same)

pub missing : {X : Type 0} (parts : Shape → List X) (shapes : List Shape) (at : Option Place) (x : Option X) → at ≡ None → Stands parts shapes at x → x ≡ None
missing parts shapes None None is e = refl
missing parts shapes None (Some x) is e = absurd (cc)
missing parts shapes (Some at) x is e = absurd (cc)

-- the unit of what is found

object_unit_in : (part : ℕ) (unit : Option Shape) (x : UnitObject) → part_in objects_of part unit ≡ Some x → option_map (λ (s : Shape). s.name) unit ≡ Some x.unit
object_unit_in part None x e = absurd (cc)
object_unit_in part (Some s) x e = of_get (slice_get s.objects part) (sym (slice_get-map (λ o. record { unit = s.name; object = o }) s.objects part) ∙ e)
  where
    of_get : (o : Option Object) → option_map (λ o. record { unit = s.name; object = o }) o ≡ Some x → Some s.name ≡ Some x.unit
    of_get None e = absurd (cc)
    of_get (Some o) e = ap (option_map (λ (y : UnitObject). y.unit)) e

task_unit_in : (part : ℕ) (unit : Option Shape) (x : UnitTask) → part_in tasks_of part unit ≡ Some x → option_map (λ (s : Shape). s.name) unit ≡ Some x.unit
task_unit_in part None x e = absurd (cc)
task_unit_in part (Some s) x e = of_get (slice_get s.tasks part) (sym (slice_get-map (λ t. record { unit = s.name; task = t }) s.tasks part) ∙ e)
  where
    of_get : (t : Option TaskShape) → option_map (λ t. record { unit = s.name; task = t }) t ≡ Some x → Some s.name ≡ Some x.unit
    of_get None e = absurd (cc)
    of_get (Some t) e = ap (option_map (λ (y : UnitTask). y.unit)) e

pub object_unit : (shapes : List Shape) (at : Option Place) (p : Place) (x : Option UnitObject) → at ≡ Some p → Stands objects_of shapes at x →
    option_map (unit_named shapes) (Some p.unit) ≡ option_map (λ (o : UnitObject). Some o.unit) x
object_unit shapes at p None is e = absurd (differ (sym (ap (option_map (part_at objects_of shapes)) is) ∙ e))
  where
    differ : Some (part_at objects_of shapes p) ≡ None → ⊥
    differ e = absurd (cc)
object_unit shapes at p (Some x) is e = ap (λ n. Some n) (object_unit_in p.part (numbered shapes p.unit) x (found objects_of shapes at p (Some x) is e))

pub task_unit : (shapes : List Shape) (at : Option Place) (p : Place) (x : Option UnitTask) → at ≡ Some p → Stands tasks_of shapes at x →
    option_map (unit_named shapes) (Some p.unit) ≡ option_map (λ (t : UnitTask). Some t.unit) x
task_unit shapes at p None is e = absurd (differ (sym (ap (option_map (part_at tasks_of shapes)) is) ∙ e))
  where
    differ : Some (part_at tasks_of shapes p) ≡ None → ⊥
    differ e = absurd (cc)
task_unit shapes at p (Some x) is e = ap (λ n. Some n) (task_unit_in p.part (numbered shapes p.unit) x (found tasks_of shapes at p (Some x) is e))

-- a part of a unit
pub object_of_unit : (s : Shape) (k : ℕ) → slice_get (objects_of s) k ≡ option_map (λ o. record { unit = s.name; object = o }) (slice_get s.objects k)
object_of_unit s k = slice_get-map (λ o. record { unit = s.name; object = o }) s.objects k

pub task_of_unit : (s : Shape) (k : ℕ) → slice_get (tasks_of s) k ≡ option_map (λ t. record { unit = s.name; task = t }) (slice_get s.tasks k)
task_of_unit s k = slice_get-map (λ t. record { unit = s.name; task = t }) s.tasks k

-- the handlers, one line more
pub handlers_set : (due : ℕ → Option OperationNumber) (handlers : List (Option (ℕ × ℕ))) (line k : ℕ) (found : Option (ℕ × ℕ)) → line < length handlers →
    option_map operation_of found ≡ due line →
    ((j : ℕ) → j < line → option_map operation_of (get_or handlers j None) ≡ due j) →
    k < line + 1 → option_map operation_of (get_or (set handlers line found) k None) ≡ due k
handlers_set due handlers line k found within here before less = by_test (k == line) refl
  where
    by_test : (b : Bool) → (k == line) ≡ b → option_map operation_of (get_or (set handlers line found) k None) ≡ due k
    by_test true is =
        let same : k ≡ line = grind (arith, nat_tests) in
        ap (option_map operation_of) (get_or-set_at handlers line k found None same within) ∙ here ∙ ap due (sym same)
    by_test false is =
        let other : k ≢ line = grind (arith, nat_tests) in
        ap (option_map operation_of) (get_or-set_other handlers line k found None other) ∙ before k (omega (arith, less, other))
