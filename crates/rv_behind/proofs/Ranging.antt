-- Values in range, in the bodies of all units.
use Rattle.std.proofs.Common.{◌≡◌, ℕ, zero, suc, true, List, [], ◌∷◌, ◌++◌, length, map, replicate, Option, None, refl, sym, ap, ◌∙◌, append_assoc, append-nil}
use Rattle.std.specs.List.{list_all}
use Rattle.rv_shape.specs.Catalogue.{UnitObject, all_objects}
use Rattle.rv_shape.specs.Shape.{Shape}
use Rattle.rv_shape.specs.declared.object.Object.{Object}
use Rattle.rv_shape.specs.declared.object.Object.TheVariants.{Protected, Suspension}
use Rattle.rv_code.specs.Bodies.{Body, UnitBodies, without_bodies}
use Rattle.rv_exec.specs.Bodies.{all_of, with_unit}
use Rattle.rv_fits.proofs.Both.{both_hold}
use Rattle.rv_ranged.specs.Ranged.{catalogue_ranged, object_ranged, objects_ranged, ranges_fit, task_ranged}
use Rattle.rv_ranged.proofs.Keeps.{ranges_joined}

-- One unit more

all_behind : (us : List UnitBodies) (unit : UnitBodies) → all_of (us ++ unit ∷ []) ≡ with_unit unit (all_of us)
all_behind [] unit = λ i. record { objects = append-nil unit.objects i; tasks = append-nil unit.tasks i }
all_behind (u ∷ us) unit =
    (λ i. record { objects = u.objects ++ (all_behind us unit i).objects; tasks = u.tasks ++ (all_behind us unit i).tasks })
    ∙ (λ i. record { objects = sym (append_assoc u.objects (all_of us).objects unit.objects) i; tasks = sym (append_assoc u.tasks (all_of us).tasks unit.tasks) i })

pub units_ranged : (shapes : List Shape) (shape : Shape) (us : List UnitBodies) (unit : UnitBodies) → length (all_of us).objects ≡ length (all_objects shapes) → catalogue_ranged shapes (all_of us) ≡ true
    → ranges_fit (shapes ++ shape ∷ []) shape.objects unit ≡ true → catalogue_ranged (shapes ++ shape ∷ []) (all_of (us ++ unit ∷ [])) ≡ true
units_ranged shapes shape us unit count old new =
    ap (λ (z : UnitBodies). catalogue_ranged (shapes ++ shape ∷ []) z) (all_behind us unit) ∙ ranges_joined shapes shape (all_of us) unit count old new

-- Units without bodies

object_alone : (shapes : List Shape) (object : Object) → object_ranged shapes object [] ≡ true
object_alone shapes (Protected object) = refl
object_alone shapes (Suspension object) = refl

objects_alone : (shapes : List Shape) (objects : List Object) (n : ℕ) (more : List (List Body)) → ((left : List Object) → objects_ranged shapes left more ≡ true) → objects_ranged shapes objects (replicate n [] ++ more) ≡ true
objects_alone shapes objects zero more f = f objects
objects_alone shapes [] (suc n) more f = refl
objects_alone shapes (object ∷ objects) (suc n) more f =
    both_hold (object_ranged shapes object []) (objects_ranged shapes objects (replicate n [] ++ more)) (object_alone shapes object) (objects_alone shapes objects n more f)

all_alone : (shapes more : List Shape) (objects : List Object) → objects_ranged shapes objects (all_of (map without_bodies more)).objects ≡ true
all_alone shapes [] [] = refl
all_alone shapes [] (object ∷ objects) = refl
all_alone shapes (s ∷ more) objects = objects_alone shapes objects (length s.objects) (all_of (map without_bodies more)).objects (all_alone shapes more)

tasks_alone : (shapes : List Shape) (n : ℕ) (more : List (Option Body)) → list_all (task_ranged shapes) more ≡ true → list_all (task_ranged shapes) (replicate n None ++ more) ≡ true
tasks_alone shapes zero more f = f
tasks_alone shapes (suc n) more f = tasks_alone shapes n more f

all_tasks_alone : (shapes more : List Shape) → list_all (task_ranged shapes) (all_of (map without_bodies more)).tasks ≡ true
all_tasks_alone shapes [] = refl
all_tasks_alone shapes (s ∷ more) = tasks_alone shapes (length s.tasks) (all_of (map without_bodies more)).tasks (all_tasks_alone shapes more)

pub units_alone : (all shapes : List Shape) → catalogue_ranged all (all_of (map without_bodies shapes)) ≡ true
units_alone all shapes =
    both_hold (objects_ranged all (map (λ (at : UnitObject). at.object) (all_objects all)) (all_of (map without_bodies shapes)).objects) (list_all (task_ranged all) (all_of (map without_bodies shapes)).tasks)
    (all_alone all shapes (map (λ (at : UnitObject). at.object) (all_objects all))) (all_tasks_alone all shapes)
