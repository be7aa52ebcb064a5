-- What a name finds among the units that are loaded is there.
use Rattle.std.proofs.Common.{◌≡◌, ℕ, zero, suc, ◌+◌, ◌-◌, ◌<◌, ◌≤◌, Bool, true, false, List, [], ◌∷◌, length, map, Some, None, Option, refl, sym, ap, subst, arith, ◌∙◌}
use Rattle.std.specs.Prelude.{nat_lt, ◌==◌, slice_get, if◌then◌else◌}
use Rattle.std.proofs.lemmas.Bool.Decides.{nat_tests}
use Rattle.std.proofs.lemmas.List.{length-map}
use Rattle.rv_event.specs.ReadBack.{IsThere}
use Rattle.rv_shape.specs.Catalogue.{UnitObject, UnitTask, Line, Operator, Task, all_tasks, at_object, at_operation, at_suspension, at_unit_object, first_task, numbered, place, suspension_operation_name, suspension_operations, target, task_of, who}
use Rattle.rv_shape.specs.Names.{number_from, operation_names, operation_number, operation_number_in, task_name, task_number}
use Rattle.rv_shape.specs.Objects.{OperationShape}
use Rattle.rv_shape.specs.Shape.{Shape}
use Rattle.rv_shape.specs.declared.object.Object.{Object}
use Rattle.rv_shape.specs.declared.object.Object.TheVariants.{Protected, Suspension}
use Rattle.rv_shape.specs.declared.suspension.SuspensionOperation.{SuspensionOperation}
use Rattle.rv_text.specs.Names.{is_same_name}
use Rattle.rv_misfit.proofs.Options.{never, same}

-- a name's number is one of those of a list of names
number_within : (name : List ℕ) (n : ℕ) (names : List (List ℕ)) (k : ℕ) → number_from name n names ≡ Some k → (i : ℕ) × (k ≡ n + i) × (i < length names)
number_within name n [] k e = never k e
number_within name n (first ∷ names) k e = by_test (is_same_name name first) (number_within name (n + 1) names k) e
  where
    by_test : (b : Bool) → (number_from name (n + 1) names ≡ Some k → (i : ℕ) × (k ≡ n + 1 + i) × (i < length names)) → (if b then Some n else number_from name (n + 1) names) ≡ Some k →
        (i : ℕ) × (k ≡ n + i) × (i < length (first ∷ names))
    by_test true behind f = let is = same n k f in (0, omega (arith, is), omega arith)
    by_test false behind f =
        let more = behind f in
        let is = more.1 in let less = more.2 in
        (suc more.0, omega (arith, is), omega (arith, less))

get_within : {X : Type 0} (xs : List X) (i : ℕ) → i < length xs → (x : X) × (slice_get xs i ≡ Some x)
get_within [] i less = absurd (omega (arith, less))
get_within (x ∷ xs) zero less = (x, refl)
get_within (x ∷ xs) (suc i) less = get_within xs i (omega (arith, less))

numbered_at : {X : Type 0} (xs : List X) (p i : ℕ) → p ≡ 1 + i → i < length xs → (x : X) × (numbered xs p ≡ Some x)
numbered_at xs p i is less =
    let at = get_within xs i less in
    let some : nat_lt p 1 ≡ false = grind (arith, nat_tests, is) in
    let back : p - 1 ≡ i = omega (arith, is) in
    (at.0, rw (some, back) at.1)

-- an operation
pub target_there : (shapes : List Shape) (o p : ℕ) (name : List ℕ) → operation_number shapes o name ≡ Some p → IsThere (target shapes o p)
target_there shapes o p name e = by_place (place shapes o) e
  where
    by_object : (at : UnitObject) (object : Object) → number_from name 1 (operation_names object) ≡ Some p → IsThere (at_object p at.unit object)
    by_object at (Protected object) e =
        let k = number_within name 1 (operation_names (Protected object)) p e in
        let many = length-map object.operations (λ (x : OperationShape). x.name) in
        let is = k.1 in let less = k.2 in
        let one = numbered_at object.operations p k.0 is (omega (arith, less, many)) in
        subst (λ (q : Option OperationShape). IsThere (at_operation at.unit object q)) (sym one.1) tt
    by_object at (Suspension object) e =
        let k = number_within name 1 (operation_names (Suspension object)) p e in
        let many = length-map suspension_operations suspension_operation_name in
        let is = k.1 in let less = k.2 in
        let one = numbered_at suspension_operations p k.0 is (omega (arith, less, many)) in
        subst (λ (q : Option SuspensionOperation). IsThere (at_suspension at.unit object.name q)) (sym one.1) tt

    by_place : (q : Option UnitObject) → operation_number_in name q ≡ Some p → IsThere (at_unit_object p q)
    by_place None e = never p e
    by_place (Some at) e = by_object at at.object e

-- a task
pub task_there : (shapes : List Shape) (name : List ℕ) (actor : ℕ) → task_number shapes name ≡ Some actor → (task : UnitTask) × (who shapes actor ≡ Task task)
task_there shapes name actor e =
    let k = number_within name first_task (map task_name (all_tasks shapes)) actor e in
    let many = length-map (all_tasks shapes) task_name in
    let is = k.1 in let less = k.2 in
    let found = get_within (all_tasks shapes) k.0 (omega (arith, less, many)) in
    let high : (actor == 0) ≡ false = grind (arith, nat_tests, is) in
    let past : nat_lt actor 11 ≡ false = grind (arith, nat_tests, is) in
    let back : actor - 11 ≡ k.0 = omega (arith, is) in (
      found.0,
      (λ i. if high i then Operator else (if past i then Line (actor - 1) else task_of (slice_get (all_tasks shapes) (actor - 11))))
          ∙ ap (λ n. task_of (slice_get (all_tasks shapes) n)) back ∙ ap task_of found.1,
    )

-- a line
pub line_there : (shapes : List Shape) (line : ℕ) → line ≤ 9 → who shapes (line + 1) ≡ Line (line + 1 - 1)
line_there shapes line low =
    let high : (line + 1 == 0) ≡ false = grind (arith, nat_tests) in
    let few : nat_lt (line + 1) 11 ≡ true = grind (arith, nat_tests, low) in
    (λ i. if high i then Operator else (if few i then Line (line + 1 - 1) else task_of (slice_get (all_tasks shapes) (line + 1 - 11))))
