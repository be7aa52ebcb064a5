-- The bodies that are found in units.
use Rattle.std.proofs.Common.{◌≡◌, ℕ, zero, suc, ◌-◌, List, [], ◌∷◌, map, Bool, true, false, cond, Option, Some, None, refl, sym, ap, ◌∙◌, subst}
use Rattle.std.specs.List.{list_all}
use Rattle.std.specs.Prelude.{nat_lt, slice_get}
use Rattle.rv_shape.specs.declared.object.Object.{Object}
use Rattle.rv_shape.specs.declared.object.Object.TheVariants.{Protected, Suspension}
use Rattle.rv_shape.specs.declared.suspension.SuspensionOperation.{SuspensionOperation}
use Rattle.rv_shape.specs.Catalogue.{Site, Target, Nowhere, OnProtected, OnSuspension, UnitObject, all_objects, numbered, place, target, at_operation, at_suspension, at_object, at_unit_object, suspension_operations}
use Rattle.rv_shape.specs.Objects.{OperationShape, ProtectedShape}
use Rattle.rv_shape.specs.Shape.{Shape}
use Rattle.rv_code.specs.Bodies.{Body, UnitBodies}
use Rattle.rv_fits.specs.Calls.{task_calls, such_in}
use Rattle.rv_fits.specs.Fits.{callee_fits}
use Rattle.rv_fits.proofs.Both.{first_of_both, second_of_both}
use Rattle.rv_ranged.specs.Ranged.{of_operation, of_target, stand_of, heads, body_ranged, operation_ranged, operations_ranged, object_ranged, objects_ranged, task_stand, task_ranged}
use Rattle.rv_exec.specs.Bodies.{flat, among, operation_of, task_of}
use Rattle.rv_exec.proofs.KeptBodies.{operation_calls, task_found}
use Rattle.rv_asks.specs.Asks.{AreRanged}
use Rattle.rv_asks.proofs.Suited.{BodySuits, body_suits}
use Rattle.rv_asks.proofs.AskedBodies.{BodyOf}

-- Where an operation is

-- the object of a call of a protected operation, and the operation in it
pub record AtSite (shapes : List Shape) (object operation : ℕ) (site : Site) : Type 0 where
  pub at : UnitObject
  pub place_is : place shapes object ≡ Some at
  pub object_is : at.object ≡ Protected site.object
  pub operation_is : numbered site.object.operations operation ≡ Some site.operation

abbrev object_or : ProtectedShape → Target → ProtectedShape
object_or object Nowhere = object
object_or object (OnProtected site) = site.object
object_or object (OnSuspension unit name deed) = object

abbrev operation_or : OperationShape → Target → OperationShape
operation_or operation Nowhere = operation
operation_or operation (OnProtected site) = site.operation
operation_or operation (OnSuspension unit name deed) = operation

-- a target is this site
abbrev IsSite : Target → Site → Type 0
IsSite t site = t ≡ OnProtected site

suspended_not : (unit name : List ℕ) (o : Option SuspensionOperation) (site : Site) → IsSite (at_suspension unit name o) site → ⊥
suspended_not unit name None site e = cc e
suspended_not unit name (Some deed) site e = cc e

pub site_at : (shapes : List Shape) (object operation : ℕ) (site : Site) → target shapes object operation ≡ OnProtected site → AtSite shapes object operation site
site_at shapes object operation site is = by_place (place shapes object) refl is where
  by_operation : (at : UnitObject) (found : ProtectedShape) → place shapes object ≡ Some at → at.object ≡ Protected found → (o : Option OperationShape) → numbered found.operations operation ≡ o
      → IsSite (at_operation at.unit found o) site → AtSite shapes object operation site
  by_operation at found p q None r e = absurd (cc e)
  by_operation at found p q (Some own) r e =
      let object_same : found ≡ site.object = ap (object_or found) e in
      let operation_same : own ≡ site.operation = ap (operation_or own) e in
      record {
        at = at;
        place_is = p;
        object_is = q ∙ ap Protected object_same;
        operation_is = ap (λ (x : ProtectedShape). numbered x.operations operation) (sym object_same) ∙ (r ∙ ap Some operation_same);
      }

  by_object : (at : UnitObject) → place shapes object ≡ Some at → (o : Object) → at.object ≡ o → IsSite (at_object operation at.unit o) site → AtSite shapes object operation site
  by_object at p (Protected found) q e = by_operation at found p q (numbered found.operations operation) refl e
  by_object at p (Suspension found) q e = absurd (suspended_not at.unit found.name (numbered suspension_operations operation) site e)

  by_place : (o : Option UnitObject) → place shapes object ≡ o → IsSite (at_unit_object operation o) site → AtSite shapes object operation site
  by_place None p e = absurd (cc e)
  by_place (Some at) p e = by_object at p at.object refl e

-- what is wanted of the operations of its object is what is wanted by their numbers
pub home_of : (shapes : List Shape) (object operation : ℕ) (site : Site) → AtSite shapes object operation site → (n : ℕ) → of_operation (numbered site.object.operations n) ≡ of_target (target shapes object n)
home_of shapes object operation site at n =
    at_home (numbered site.object.operations n) at.at.unit site.object
    ∙ (ap (λ (x : Object). of_target (at_object n at.at.unit x)) (sym at.object_is) ∙ ap (λ (o : Option UnitObject). of_target (at_unit_object n o)) (sym at.place_is)) where
      at_home : (o : Option OperationShape) (unit : List ℕ) (found : ProtectedShape) → of_operation o ≡ of_target (at_operation unit found o)
      at_home None unit found = refl
      at_home (Some own) unit found = refl

-- Which body it has

-- a body is ranged as one of this operation
abbrev RangedOf : List Shape → ProtectedShape → Option Body → Option OperationShape → Type 0
RangedOf shapes object None operation = Unit {0}
RangedOf shapes object (Some body) None = ⊥
RangedOf shapes object (Some body) (Some operation) = operation_ranged shapes object operation body ≡ true

each_body : (shapes : List Shape) (object : ProtectedShape) (operations : List OperationShape) (bs : List Body) (i : ℕ) → operations_ranged shapes object operations bs ≡ true → RangedOf shapes object (slice_get bs i) (slice_get operations i)
each_body shapes object operations [] i m = tt
each_body shapes object [] (b ∷ bs) i m = absurd (cc m)
each_body shapes object (operation ∷ operations) (b ∷ bs) zero m = first_of_both (operation_ranged shapes object operation b) (operations_ranged shapes object operations bs) m
each_body shapes object (operation ∷ operations) (b ∷ bs) (suc i) m = each_body shapes object operations bs i (second_of_both (operation_ranged shapes object operation b) (operations_ranged shapes object operations bs) m)

numbered_body : (shapes : List Shape) (object : ProtectedShape) (bs : List Body) (n : ℕ) → operations_ranged shapes object object.operations bs ≡ true → RangedOf shapes object (among (Some bs) n) (numbered object.operations n)
numbered_body shapes object bs n m = by_test (nat_lt n 1) (each_body shapes object object.operations bs (n - 1) m) where
  by_test : (k : Bool) → RangedOf shapes object (slice_get bs (n - 1)) (slice_get object.operations (n - 1)) → RangedOf shapes object (cond k None (slice_get bs (n - 1))) (cond k None (slice_get object.operations (n - 1)))
  by_test true f = tt
  by_test false f = f

-- one that calls what it may, too
body_of : (shapes : List Shape) (number : ℕ) (object : ProtectedShape) (o : Option Body) (operation : Option OperationShape) → RangedOf shapes object o operation → task_calls (such_in (callee_fits shapes) number) o ≡ true → BodyOf shapes number object o operation
body_of shapes number object None operation m c = tt
body_of shapes number object (Some body) None m c = m
body_of shapes number object (Some body) (Some operation) m c = (
  first_of_both (heads operation body) (body_ranged shapes (stand_of object operation) body) m,
  body_suits shapes (such_in (callee_fits shapes) number) (stand_of object operation) body c (second_of_both (heads operation body) (body_ranged shapes (stand_of object operation) body) m),
)

-- Which object it is one of

abbrev BothRanged : List Shape → Option UnitObject → Option (List Body) → Type 0
BothRanged shapes None bodies = Unit {0}
BothRanged shapes (Some at) None = Unit {0}
BothRanged shapes (Some at) (Some bs) = object_ranged shapes at.object bs ≡ true

none_ranged : (shapes : List Shape) (o : Option UnitObject) → BothRanged shapes o None
none_ranged shapes None = tt
none_ranged shapes (Some at) = tt

objects_at : (shapes : List Shape) (objects : List UnitObject) (lists : List (List Body)) (i : ℕ) → objects_ranged shapes (map (λ (at : UnitObject). at.object) objects) lists ≡ true → BothRanged shapes (slice_get objects i) (slice_get lists i)
objects_at shapes objects [] i m = none_ranged shapes (slice_get objects i)
objects_at shapes [] (bs ∷ lists) i m = tt
objects_at shapes (at ∷ objects) (bs ∷ lists) zero m = first_of_both (object_ranged shapes at.object bs) (objects_ranged shapes (map (λ (at : UnitObject). at.object) objects) lists) m
objects_at shapes (at ∷ objects) (bs ∷ lists) (suc i) m = objects_at shapes objects lists i (second_of_both (object_ranged shapes at.object bs) (objects_ranged shapes (map (λ (at : UnitObject). at.object) objects) lists) m)

module _ (shapes : List Shape) (bodies : UnitBodies) (m : AreRanged shapes bodies) where
  both_numbered : (n : ℕ) → BothRanged shapes (place shapes n) (numbered bodies.objects n)
  both_numbered n = by_test (nat_lt n 1) (objects_at shapes (all_objects shapes) bodies.objects (n - 1) (first_of_both (objects_ranged shapes (map (λ (at : UnitObject). at.object) (all_objects shapes)) bodies.objects) (list_all (task_ranged shapes) bodies.tasks) m.ranges)) where
    by_test : (k : Bool) → BothRanged shapes (slice_get (all_objects shapes) (n - 1)) (slice_get bodies.objects (n - 1)) → BothRanged shapes (cond k None (slice_get (all_objects shapes) (n - 1))) (cond k None (slice_get bodies.objects (n - 1)))
    by_test true f = tt
    by_test false f = f

  ranged_in : (at : UnitObject) (object : ProtectedShape) (n : ℕ) (o : Option (List Body)) → at.object ≡ Protected object → BothRanged shapes (Some at) o → RangedOf shapes object (among o n) (numbered object.operations n)
  ranged_in at object n None is f = tt
  ranged_in at object n (Some bs) is f = numbered_body shapes object bs n (ap (λ (x : Object). object_ranged shapes x bs) (sym is) ∙ f)

  -- each operation of an object has its body or none
  pub bodies_of : (object operation : ℕ) (site : Site) → AtSite shapes object operation site → (n : ℕ) → BodyOf shapes object site.object (operation_of bodies object n) (numbered site.object.operations n)
  bodies_of object operation site at n =
      body_of shapes object site.object (operation_of bodies object n) (numbered site.object.operations n)
      (ranged_in at.at site.object n (numbered bodies.objects object) at.object_is (subst (λ (o : Option UnitObject). BothRanged shapes o (numbered bodies.objects object)) at.place_is (both_numbered object)))
      (operation_calls (callee_fits shapes) bodies object n m.calls)

  -- Tasks

  abbrev pub TaskSuits : Option Body → Type 0
  TaskSuits None = Unit {0}
  TaskSuits (Some body) = BodySuits shapes (such_in (callee_fits shapes) 0) task_stand body

  task_both : (o : Option Body) → task_calls (such_in (callee_fits shapes) 0) o ≡ true → task_ranged shapes o ≡ true → TaskSuits o
  task_both None c r = tt
  task_both (Some body) c r = body_suits shapes (such_in (callee_fits shapes) 0) task_stand body c r

  tasks_at : (tasks : List (Option Body)) (i : ℕ) → list_all (task_ranged shapes) tasks ≡ true → task_ranged shapes (flat (slice_get tasks i)) ≡ true
  tasks_at [] i r = refl
  tasks_at (o ∷ tasks) zero r = first_of_both (task_ranged shapes o) (list_all (task_ranged shapes) tasks) r
  tasks_at (o ∷ tasks) (suc i) r = tasks_at tasks i (second_of_both (task_ranged shapes o) (list_all (task_ranged shapes) tasks) r)

  ranged_unless : (k : Bool) (o : Option Body) → task_ranged shapes o ≡ true → task_ranged shapes (cond k None o) ≡ true
  ranged_unless true o r = refl
  ranged_unless false o r = r

  pub task_suits : (actor : ℕ) → TaskSuits (task_of bodies actor)
  task_suits actor =
      task_both (task_of bodies actor) (task_found (callee_fits shapes) bodies actor m.calls)
      (ranged_unless (nat_lt actor 11) (flat (slice_get bodies.tasks (actor - 11)))
      (tasks_at bodies.tasks (actor - 11) (second_of_both (objects_ranged shapes (map (λ (at : UnitObject). at.object) (all_objects shapes)) bodies.objects) (list_all (task_ranged shapes) bodies.tasks) m.ranges)))
