-- The bodies of longer histories.
use Rattle.std.proofs.Common.{◌≡◌, List, [], ◌∷◌, ◌++◌, reverse, map, Some, None, refl, sym, ap, ◌∙◌, append_assoc, append-nil}
use Rattle.std.proofs.lemmas.List.{reverse-append}
use Rattle.rv_code.specs.Bodies as Code
use Rattle.rv_code.specs.BodyView.{unit_view}
use Rattle.rv_code.specs.declared.body.UnitBodies.{UnitBodies}
use Rattle.rv_exec.specs.Bodies.{all_of}
use Rattle.rv_turn.specs.Histories.{StartsWith}
use Rattle.rv_behind.specs.Events.{units_in}
use Rattle.rv_port.specs.Later.{KeepsBodies}
use Rattle.rv_behind.specs.declared.event.Event.{Event}
use Rattle.rv_behind.specs.declared.event.Event.TheVariants.{Asks, Loads, Lists}

pub units-append : (xs ys : List Event) → units_in (xs ++ ys) ≡ units_in ys ++ units_in xs
units-append [] ys = sym (append-nil (units_in ys))
units-append (Asks a q w ∷ xs) ys = units-append xs ys
units-append (Loads s None ∷ xs) ys = units-append xs ys
units-append (Loads s (Some u) ∷ xs) ys = ap (λ (z : List UnitBodies). z ++ u ∷ []) (units-append xs ys) ∙ append_assoc (units_in ys) (units_in xs) (u ∷ [])
units-append (Lists l ∷ xs) ys = units-append xs ys

abbrev views : List UnitBodies → Code.UnitBodies
views us = all_of (map unit_view us)

both_objects : (us vs : List UnitBodies) → (views (us ++ vs)).objects ≡ (views us).objects ++ (views vs).objects
both_objects [] vs = refl
both_objects (u ∷ us) vs = ap (λ (z : List (List Code.Body)). (unit_view u).objects ++ z) (both_objects us vs) ∙ sym (append_assoc (unit_view u).objects (views us).objects (views vs).objects)

both_tasks : (us vs : List UnitBodies) → (views (us ++ vs)).tasks ≡ (views us).tasks ++ (views vs).tasks
both_tasks [] vs = refl
both_tasks (u ∷ us) vs = ap (λ z. (unit_view u).tasks ++ z) (both_tasks us vs) ∙ sym (append_assoc (unit_view u).tasks (views us).tasks (views vs).tasks)

longer : (seen at : List Event) (w : StartsWith at seen) → units_in (reverse at) ≡ units_in (reverse seen) ++ units_in (reverse w.0)
longer seen at w = ap (λ (l : List Event). units_in (reverse l)) w.1 ∙ (ap units_in (reverse-append seen w.0) ∙ units-append (reverse w.0) (reverse seen))

pub bodies_later : (seen at : List Event) → StartsWith at seen → KeepsBodies seen at
bodies_later seen at w = record {
  objects = ((views (units_in (reverse w.0))).objects, ap (λ (us : List UnitBodies). (views us).objects) (longer seen at w) ∙ both_objects (units_in (reverse seen)) (units_in (reverse w.0)));
  tasks = ((views (units_in (reverse w.0))).tasks, ap (λ (us : List UnitBodies). (views us).tasks) (longer seen at w) ∙ both_tasks (units_in (reverse seen)) (units_in (reverse w.0)));
}
