-- What is loaded is found by its names, where each shape fitted when it was loaded.
use Rattle.std.proofs.Common.{◌≡◌, ℕ, zero, suc, ◌+◌, ◌-◌, ◌≤◌, List, [], ◌∷◌, ◌++◌, length, map, take, drop, get_or, subst, append_assoc, ◌<◌, Some, None, Bool, true, false, arith, ap, sym, ◌∙◌, refl}
use Rattle.std.specs.Prelude.{nat_lt, slice_get, ◌||◌, ◌&&◌, ◌==◌, not, if◌then◌else◌}
use Rattle.std.specs.List.{list_any, flat_map}
use Rattle.std.specs.Option.{option_map}
use Rattle.std.specs.Char.{to_ascii_lowercase, is_ascii_alphanumeric}
use Rattle.std.proofs.lemmas.List.{map-append, take-append-drop, drop_more}
use Rattle.std.proofs.lemmas.List.Folds.{list_any-append}
use Rattle.std.proofs.lemmas.Option.{slice_get-map}
use Rattle.std.proofs.lemmas.Bool.Decides.{nat_tests}
use Rattle.rv_text.specs.Names.{is_identifier, is_same_name, dotted}
use Rattle.rv_text.proofs.Bytes.{Each, and_first, each_append, identifier_each}
use Rattle.rv_shape.specs.declared.object.Object.{Object}
use Rattle.rv_shape.specs.declared.object.Object.TheVariants.{Protected, Suspension}
use Rattle.rv_shape.specs.Objects.{OperationShape, TaskShape, ProtectedShape}
use Rattle.rv_shape.specs.Shape.{Shape}
use Rattle.rv_shape.specs.Catalogue.{UnitTask, UnitObject, first_task, all_tasks, all_objects, tasks_of, objects_of, operations_of}
use Rattle.rv_shape.specs.Forms.{is_formed, ill_operation, ill_object}
use Rattle.rv_shape.specs.Fits.{among, twice, reserved, object_name, fault}
use Rattle.rv_shape.specs.Names.{unit_name, task_name, unit_object_name, operation_names, number_from, operation_number_in}
use Rattle.rv_shape.specs.Found.{AreFound, IsClear, AreClear, AreDistinct}
use Rattle.rv_shape.proofs.Faultless.{no_fault}
use Rattle.rv_shape.proofs.NumberingLemmas.{same_laws}

or_false : (a b : Bool) → (a || b) ≡ false → (a ≡ false) × (b ≡ false)
or_false true b e = absurd (cc)
or_false false b e = (refl, e)

both_false : (a b : Bool) → a ≡ false → b ≡ false → (a || b) ≡ false
both_false a b e f = rw (e, f) refl

not_false : (a : Bool) → not a ≡ false → a ≡ true
not_false true e = refl
not_false false e = absurd cc

-- each of a list

each_get : {X : Type 0} (P : X → Type 0) (xs : List X) (k : ℕ) (x : X) → Each P xs → slice_get xs k ≡ Some x → P x
each_get P [] k x h e = absurd cc
each_get P (y ∷ ys) zero x h e = let same : y ≡ x = cc in rw (← same) h.0
each_get P (y ∷ ys) (suc k) x h e = each_get P ys k x h.1 e

each_map : {X Y : Type 0} (P : Y → Type 0) (f : X → Y) (xs : List X) → Each (λ x. P (f x)) xs → Each P (map f xs)
each_map P f [] h = tt
each_map P f (x ∷ xs) h = (h.0, each_map P f xs h.1)

each_false : {X : Type 0} (p : X → Bool) (xs : List X) → list_any p xs ≡ false → Each (λ x. p x ≡ false) xs
each_false p [] e = tt
each_false p (x ∷ xs) e = let two = or_false (p x) (list_any p xs) e in (two.0, each_false p xs two.1)

each_both : {X : Type 0} (P Q R : X → Type 0) (xs : List X) → ((x : X) → P x → Q x → R x) → Each P xs → Each Q xs → Each R xs
each_both P Q R [] f h g = tt
each_both P Q R (x ∷ xs) f h g = (f x h.0 g.0, each_both P Q R xs f h.1 g.1)

-- the number of a name among names that differ

not_among : (name : List ℕ) (names : List (List ℕ)) (k : ℕ) (other : List ℕ) → among name names ≡ false → slice_get names k ≡ Some other → is_same_name name other ≡ false
not_among name names k other e at = each_get (λ x. is_same_name name x ≡ false) names k other (each_false (is_same_name name) names e) at

pub first_number : (names : List (List ℕ)) (n k : ℕ) (name : List ℕ) → twice names ≡ false → slice_get names k ≡ Some name → number_from name n names ≡ Some (n + k)
first_number [] n k name e at = absurd cc
first_number (first ∷ names) n zero name e at =
    let is : first ≡ name = cc in
    let same : is_same_name name first ≡ true = ap (is_same_name name) is ∙ same_laws.refl name in
    let none : n ≡ n + 0 = omega arith in
    (rw same refl) ∙ ap (λ (m : ℕ). Some m) none
first_number (first ∷ names) n (suc k) name e at =
    let two = or_false (among first names) (twice names) e in
    let other : is_same_name name first ≡ false = same_laws.symm name first ∙ not_among first names k name two.0 at in
    let next : n + 1 + k ≡ n + suc k = omega arith in
    (rw other (first_number names (n + 1) k name two.1 at)) ∙ ap (λ (m : ℕ). Some m) next

-- names with a dot

abbrev Dotless : List ℕ → Type 0
Dotless bytes = Each (λ byte. (to_ascii_lowercase byte == 46) ≡ false) bytes

letter_dotless : (c : ℕ) → is_ascii_alphanumeric c ≡ true → (to_ascii_lowercase c == 46) ≡ false
letter_dotless c e = grind (arith, nat_tests, e)

identifier_dotless : (word : List ℕ) → is_identifier word ≡ true → Dotless word
identifier_dotless word e = identifier_each (λ byte. (to_ascii_lowercase byte == 46) ≡ false) word (record { letter = λ c l. letter_dotless c l; low_line = refl }) e

and_assoc : (a b c : Bool) → (a && (b && c)) ≡ ((a && b) && c)
and_assoc true b c = refl
and_assoc false b c = refl

dot_first : (c : ℕ) → (to_ascii_lowercase c == 46) ≡ false → (to_ascii_lowercase 46 == to_ascii_lowercase c) ≡ false
dot_first c e = grind (arith, nat_tests, e)

dotted_same : (u a v b : List ℕ) → Dotless u → Dotless v → is_same_name (dotted u a) (dotted v b) ≡ (is_same_name u v && is_same_name a b)
dotted_same [] a [] b h g = refl
dotted_same [] a (y ∷ v) b h g = let off = dot_first y g.0 in rw off refl
dotted_same (x ∷ u) a [] b h g = let off = h.0 in rw off refl
dotted_same (x ∷ u) a (y ∷ v) b h g =
    ap (λ (t : Bool). (to_ascii_lowercase x == to_ascii_lowercase y) && t) (dotted_same u a v b h.1 g.1)
    ∙ and_assoc (to_ascii_lowercase x == to_ascii_lowercase y) (is_same_name u v) (is_same_name a b)

-- the names of parts of shapes differ

twice_append : (xs ys : List (List ℕ)) → twice xs ≡ false → twice ys ≡ false → Each (λ x. among x ys ≡ false) xs → twice (xs ++ ys) ≡ false
twice_append [] ys e f h = f
twice_append (x ∷ xs) ys e f h =
    let two = or_false (among x xs) (twice xs) e in
    both_false (among x (xs ++ ys)) (twice (xs ++ ys)) (list_any-append (is_same_name x) xs ys ∙ both_false (among x xs) (among x ys) two.0 h.0) (twice_append xs ys two.1 f h.1)

twice_behind : (xs ys : List (List ℕ)) → twice (xs ++ ys) ≡ false → twice ys ≡ false
twice_behind [] ys e = e
twice_behind (x ∷ xs) ys e = twice_behind xs ys (or_false (among x (xs ++ ys)) (twice (xs ++ ys)) e).1

twice_before : (xs ys : List (List ℕ)) → twice (xs ++ ys) ≡ false → twice xs ≡ false
twice_before [] ys e = refl
twice_before (x ∷ xs) ys e =
    let two = or_false (among x (xs ++ ys)) (twice (xs ++ ys)) e in
    both_false (among x xs) (twice xs) (or_false (among x xs) (among x ys) (sym (list_any-append (is_same_name x) xs ys) ∙ two.0)).0 (twice_before xs ys two.1)

abbrev names_of : {X : Type 0} → (Shape → List X) → (X → List ℕ) → Shape → List (List ℕ)
names_of parts name shape = map (λ x. dotted shape.name (name x)) (parts shape)

abbrev all_names : {X : Type 0} → (Shape → List X) → (X → List ℕ) → List Shape → List (List ℕ)
all_names parts name shapes = flat_map (names_of parts name) shapes

-- a name among those with the same unit
among_own : {X : Type 0} (name : X → List ℕ) (unit own : List ℕ) (xs : List X) → Dotless unit → among (dotted unit own) (map (λ x. dotted unit (name x)) xs) ≡ among own (map name xs)
among_own name unit own [] h = refl
among_own name unit own (x ∷ xs) h =
    let same : is_same_name (dotted unit own) (dotted unit (name x)) ≡ is_same_name own (name x) =
    dotted_same unit own unit (name x) h h ∙ ap (λ (t : Bool). t && is_same_name own (name x)) (same_laws.refl unit) in
    ap (λ (t : Bool). t || among (dotted unit own) (map (λ y. dotted unit (name y)) xs)) same
    ∙ ap (λ (t : Bool). is_same_name own (name x) || t) (among_own name unit own xs h)

twice_own : {X : Type 0} (name : X → List ℕ) (unit : List ℕ) (xs : List X) → Dotless unit → twice (map (λ x. dotted unit (name x)) xs) ≡ twice (map name xs)
twice_own name unit [] h = refl
twice_own name unit (x ∷ xs) h =
    ap (λ (t : Bool). t || twice (map (λ y. dotted unit (name y)) xs)) (among_own name unit (name x) xs h)
    ∙ ap (λ (t : Bool). among (name x) (map name xs) || t) (twice_own name unit xs h)

-- a name with another unit
among_other : {X : Type 0} (name : X → List ℕ) (unit own other : List ℕ) (xs : List X) → Dotless unit → Dotless other → is_same_name unit other ≡ false →
    among (dotted unit own) (map (λ x. dotted other (name x)) xs) ≡ false
among_other name unit own other [] h g e = refl
among_other name unit own other (x ∷ xs) h g e =
    both_false (is_same_name (dotted unit own) (dotted other (name x))) (among (dotted unit own) (map (λ y. dotted other (name y)) xs))
    (dotted_same unit own other (name x) h g ∙ (rw e refl)) (among_other name unit own other xs h g e)

clear_dotless : (s : Shape) → IsClear s → Dotless s.name
clear_dotless s clear =
    let two = or_false (not (is_identifier s.name) || list_any (λ t. not (is_identifier t.name)) s.tasks) (list_any ill_object s.objects) clear.formed in
    identifier_dotless s.name (not_false (is_identifier s.name) (or_false (not (is_identifier s.name)) (list_any (λ t. not (is_identifier t.name)) s.tasks) two.0).0)

among_others : {X : Type 0} (parts : Shape → List X) (name : X → List ℕ) (unit own : List ℕ) (ss : List Shape) → Dotless unit → AreClear ss → among unit (map unit_name ss) ≡ false →
    among (dotted unit own) (all_names parts name ss) ≡ false
among_others parts name unit own [] h clear e = refl
among_others parts name unit own (s ∷ ss) h clear e =
    let two = or_false (is_same_name unit s.name) (among unit (map unit_name ss)) e in
    list_any-append (is_same_name (dotted unit own)) (names_of parts name s) (all_names parts name ss)
    ∙ both_false (among (dotted unit own) (names_of parts name s)) (among (dotted unit own) (all_names parts name ss))
    (among_other name unit own s.name (parts s) h (clear_dotless s clear.0) two.0) (among_others parts name unit own ss h clear.1 two.1)

each_apart : {X : Type 0} (parts : Shape → List X) (name : X → List ℕ) (unit : List ℕ) (xs : List X) (ss : List Shape) → Dotless unit → AreClear ss → among unit (map unit_name ss) ≡ false →
    Each (λ n. among n (all_names parts name ss) ≡ false) (map (λ x. dotted unit (name x)) xs)
each_apart parts name unit [] ss h clear e = tt
each_apart parts name unit (x ∷ xs) ss h clear e = (among_others parts name unit (name x) ss h clear e, each_apart parts name unit xs ss h clear e)

all_differ : {X : Type 0} (parts : Shape → List X) (name : X → List ℕ) (ss : List Shape) → ((s : Shape) → IsClear s → twice (map name (parts s)) ≡ false) →
    AreClear ss → twice (map unit_name ss) ≡ false → twice (all_names parts name ss) ≡ false
all_differ parts name [] own clear e = refl
all_differ parts name (s ∷ ss) own clear e =
    let two = or_false (among s.name (map unit_name ss)) (twice (map unit_name ss)) e in
    let dotless = clear_dotless s clear.0 in
    twice_append (names_of parts name s) (all_names parts name ss) (twice_own name s.name (parts s) dotless ∙ own s clear.0) (all_differ parts name ss own clear.1 two.1)
    (each_apart parts name s.name (parts s) ss dotless clear.1 two.0)

-- the names of tasks and of objects are such names

names_map : {X Y : Type 0} (make : Shape → X → Y) (parts : Shape → List X) (name : X → List ℕ) (full : Y → List ℕ) (ss : List Shape) →
    ((s : Shape) (x : X) → full (make s x) ≡ dotted s.name (name x)) → map full (flat_map (λ s. map (make s) (parts s)) ss) ≡ all_names parts name ss
names_map {X = X} make parts name full [] h = refl
names_map {X = X} make parts name full (s ∷ ss) h =
    map-append full (map (make s) (parts s)) (flat_map (λ z. map (make z) (parts z)) ss)
    ∙ ap (λ ns. ns ++ map full (flat_map (λ z. map (make z) (parts z)) ss)) (by_part (parts s))
    ∙ ap (λ ns. names_of parts name s ++ ns) (names_map make parts name full ss h)
  where
    by_part : (xs : List X) → map full (map (make s) xs) ≡ map (λ x. dotted s.name (name x)) xs
    by_part [] = refl
    by_part (x ∷ xs) = ap (λ n. n ∷ map full (map (make s) xs)) (h s x) ∙ ap (λ ns. dotted s.name (name x) ∷ ns) (by_part xs)

tasks_differ : (ss : List Shape) → AreDistinct ss → twice (map task_name (all_tasks ss)) ≡ false
tasks_differ ss d =
    ap twice (names_map (λ s t. record { unit = s.name; task = t }) (λ s. s.tasks) (λ t. t.name) task_name ss (λ s t. refl))
    ∙ all_differ (λ s. s.tasks) (λ t. t.name) ss (λ s clear. twice_before (map (λ t. t.name) s.tasks) (map object_name s.objects) clear.parts) d.each d.units

objects_differ : (ss : List Shape) → AreDistinct ss → twice (map unit_object_name (all_objects ss)) ≡ false
objects_differ ss d =
    ap twice (names_map (λ s o. record { unit = s.name; object = o }) (λ s. s.objects) object_name unit_object_name ss (λ s o. refl))
    ∙ all_differ (λ s. s.objects) object_name ss (λ s clear. twice_behind (map (λ t. t.name) s.tasks) (map object_name s.objects) clear.parts) d.each d.units

-- the names are identifiers, and those of operations differ

record IsClearTask (at : UnitTask) : Type 0 where
  unit : is_identifier at.unit ≡ true
  name : is_identifier at.task.name ≡ true

record IsClearObject (at : UnitObject) : Type 0 where
  unit : is_identifier at.unit ≡ true
  name : is_identifier (object_name at.object) ≡ true
  names : twice (operation_names at.object) ≡ false
  spelled : Each (λ n. is_identifier n ≡ true) (operation_names at.object)

unit_spelled : (s : Shape) → IsClear s → is_identifier s.name ≡ true
unit_spelled s clear =
    let two = or_false (not (is_identifier s.name) || list_any (λ t. not (is_identifier t.name)) s.tasks) (list_any ill_object s.objects) clear.formed in
    not_false (is_identifier s.name) (or_false (not (is_identifier s.name)) (list_any (λ t. not (is_identifier t.name)) s.tasks) two.0).0

clear_tasks : (s : Shape) → IsClear s → Each IsClearTask (tasks_of s)
clear_tasks s clear =
    let two = or_false (not (is_identifier s.name) || list_any (λ t. not (is_identifier t.name)) s.tasks) (list_any ill_object s.objects) clear.formed in
    let tasks = (or_false (not (is_identifier s.name)) (list_any (λ t. not (is_identifier t.name)) s.tasks) two.0).1 in
    each_map IsClearTask (λ t. record { unit = s.name; task = t }) s.tasks
    (each_both (λ t. not (is_identifier t.name) ≡ false) (λ t. not (is_identifier t.name) ≡ false) (λ (t : TaskShape). IsClearTask (record { unit = s.name; task = t })) s.tasks
    (λ t e f. record { unit = unit_spelled s clear; name = not_false (is_identifier t.name) e })
    (each_false (λ t. not (is_identifier t.name)) s.tasks tasks) (each_false (λ t. not (is_identifier t.name)) s.tasks tasks))

operation_spelled : (object : ProtectedShape) (operations : List OperationShape) → Each (λ p. ill_operation object.components p ≡ false) operations → Each (λ n. is_identifier n ≡ true) (map (λ p. p.name) operations)
operation_spelled object [] h = tt
operation_spelled object (p ∷ ps) h =
    (and_first (is_identifier p.name) (is_formed object.components p.kind p.parameters) (not_false (is_identifier p.name && is_formed object.components p.kind p.parameters) h.0), operation_spelled object ps h.1)

clear_object : (unit : List ℕ) (object : Object) → is_identifier unit ≡ true → ill_object object ≡ false → twice (map (λ p. p.name) (operations_of object)) ≡ false → IsClearObject (record { unit = unit; object = object })
clear_object unit (Protected object) u e f =
    let two = or_false (not (is_identifier object.name)) (list_any (λ p. ill_operation object.components p) object.operations) e in
    record { unit = u; name = not_false (is_identifier object.name) two.0; names = f; spelled = operation_spelled object object.operations (each_false (λ p. ill_operation object.components p) object.operations two.1) }
clear_object unit (Suspension object) u e f =
    record { unit = u; name = not_false (is_identifier object.name) e; names = refl; spelled = (refl, (refl, (refl, (refl, tt)))) }

clear_objects : (s : Shape) → IsClear s → Each IsClearObject (objects_of s)
clear_objects s clear =
    let two = or_false (not (is_identifier s.name) || list_any (λ t. not (is_identifier t.name)) s.tasks) (list_any ill_object s.objects) clear.formed in
    each_map IsClearObject (λ o. record { unit = s.name; object = o }) s.objects
    (each_both (λ o. ill_object o ≡ false) (λ o. twice (map (λ p. p.name) (operations_of o)) ≡ false) (λ (o : Object). IsClearObject (record { unit = s.name; object = o })) s.objects
    (λ o e f. clear_object s.name o (unit_spelled s clear) e f)
    (each_false ill_object s.objects two.1) (each_false (λ o. twice (map (λ p. p.name) (operations_of o))) s.objects clear.operations))

all_clear_tasks : (ss : List Shape) → AreClear ss → Each IsClearTask (all_tasks ss)
all_clear_tasks [] clear = tt
all_clear_tasks (s ∷ ss) clear = each_append IsClearTask (tasks_of s) (all_tasks ss) (clear_tasks s clear.0) (all_clear_tasks ss clear.1)

all_clear_objects : (ss : List Shape) → AreClear ss → Each IsClearObject (all_objects ss)
all_clear_objects [] clear = tt
all_clear_objects (s ∷ ss) clear = each_append IsClearObject (objects_of s) (all_objects ss) (clear_objects s clear.0) (all_clear_objects ss clear.1)

-- numbers from 1

record IsAt {X : Type 0} (xs : List X) (first n : ℕ) (x : X) : Type 0 where
  from : n ≡ first + (n - first)
  at : slice_get xs (n - first) ≡ Some x

at_number : {X : Type 0} (xs : List X) (first n : ℕ) (x : X) → (if nat_lt n first then None else slice_get xs (n - first)) ≡ Some x → IsAt xs first n x
at_number xs first n x e = by_test (nat_lt n first) refl e
  where
    by_test : (b : Bool) → nat_lt n first ≡ b → (if b then None else slice_get xs (n - first)) ≡ Some x → IsAt xs first n x
    by_test true t e = absurd cc
    by_test false t e = let le : first ≤ n = grind (arith, nat_tests, t) in record { from = omega (arith, le); at = e }

found_at : {X : Type 0} (full : X → List ℕ) (xs : List X) (first n : ℕ) (x : X) → twice (map full xs) ≡ false → IsAt xs first n x → number_from (full x) first (map full xs) ≡ Some n
found_at full xs first n x e at =
    first_number (map full xs) first (n - first) (full x) e (slice_get-map full xs (n - first) ∙ ap (option_map full) at.at) ∙ ap (λ (m : ℕ). Some m) (sym at.from)

pub distinct_found : (ss : List Shape) → AreDistinct ss → AreFound ss
distinct_found ss d = record {
  tasks = λ actor at is.
      let here = at_number (all_tasks ss) first_task actor at is in
      let clear = each_get IsClearTask (all_tasks ss) (actor - first_task) at (all_clear_tasks ss d.each) here.at in
      record { unit = clear.unit; name = clear.name; number = found_at task_name (all_tasks ss) first_task actor at (tasks_differ ss d) here };
  objects = λ object at is.
      let here = at_number (all_objects ss) 1 object at is in
      let clear = each_get IsClearObject (all_objects ss) (object - 1) at (all_clear_objects ss d.each) here.at in
      record { unit = clear.unit; name = clear.name; number = found_at unit_object_name (all_objects ss) 1 object at (objects_differ ss d) here };
  operations = λ object operation at name is named.
      let here = at_number (all_objects ss) 1 object at is in
      let clear = each_get IsClearObject (all_objects ss) (object - 1) at (all_clear_objects ss d.each) here.at in
      let there = at_number (operation_names at.object) 1 operation name named in
      let spelled = each_get (λ n. is_identifier n ≡ true) (operation_names at.object) (operation - 1) name clear.spelled there.at in
      let number : number_from name 1 (operation_names at.object) ≡ Some operation =
      first_number (operation_names at.object) 1 (operation - 1) name clear.names there.at ∙ ap (λ (m : ℕ). Some m) (sym there.from) in
      (spelled, ap (operation_number_in name) is ∙ number);
}

-- a shape that fits

clear_more : (ss : List Shape) (s : Shape) → AreClear ss → IsClear s → AreClear (ss ++ s ∷ [])
clear_more [] s h one = (one, tt)
clear_more (x ∷ ss) s h one = (h.0, clear_more ss s h.1 one)

each_unlike : (names : List (List ℕ)) (name : List ℕ) → among name names ≡ false → Each (λ n. among n (name ∷ []) ≡ false) names
each_unlike [] name e = tt
each_unlike (n ∷ names) name e =
    let two = or_false (is_same_name name n) (among name names) e in
    (both_false (is_same_name n name) false (same_laws.symm n name ∙ two.0) refl, each_unlike names name two.1)

pub distinct_more : (ss : List Shape) (s : Shape) → AreDistinct ss → fault ss s ≡ None → AreDistinct (ss ++ s ∷ [])
distinct_more ss s d none =
    let passes = no_fault ss s none in
    let operations = or_false _ _ passes.name in
    let parts = or_false _ _ operations.0 in
    let units = or_false (among s.name reserved) (among s.name (map unit_name ss)) parts.0 in
    record {
      units = ap twice (map-append unit_name ss (s ∷ [])) ∙ twice_append (map unit_name ss) (s.name ∷ []) d.units refl (each_unlike (map unit_name ss) s.name units.1);
      each = clear_more ss s d.each (record { parts = parts.1; operations = operations.1; formed = passes.text });
    }

pub distinct_none : AreDistinct []
distinct_none = record { units = refl; each = tt }

-- the first of shapes that differ do

front_clear : (shapes more : List Shape) → AreClear (shapes ++ more) → AreClear shapes
front_clear [] more all = tt
front_clear (shape ∷ shapes) more all = (all.0, front_clear shapes more all.1)

front_distinct : (shapes more : List Shape) → AreDistinct (shapes ++ more) → AreDistinct shapes
front_distinct shapes more all = record {
  units = twice_before (map unit_name shapes) (map unit_name more) (ap twice (sym (map-append unit_name shapes more)) ∙ all.units);
  each = front_clear shapes more all.each;
}

-- so they do with the item behind them
pub first_distinct : (shapes : List Shape) (i : ℕ) (s : Shape) → AreDistinct shapes → i < length shapes → s ≡ get_or shapes i s →
    AreDistinct (take i shapes ++ s ∷ [])
first_distinct shapes i s all within is =
    front_distinct (take i shapes ++ s ∷ []) (drop (i + 1) shapes)
    (subst AreDistinct
    (sym (take-append-drop i shapes) ∙ ap (λ xs. take i shapes ++ xs) (drop_more shapes i s within ∙ ap (λ x. x ∷ drop (i + 1) shapes) (sym is))
    ∙ sym (append_assoc (take i shapes) (s ∷ []) (drop (i + 1) shapes)))
    all)
