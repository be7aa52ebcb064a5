-- Objects by their numbers.
use Rattle.std.proofs.Common.{◌≡◌, ℕ, ◌+◌, ◌-◌, ◌<◌, List, [], length, get_or, take, ap, sym, ◌∙◌, refl, arith}
use Rattle.std.specs.Prelude.{Some, None, slice_get, nat_lt, if◌then◌else◌, Bool, true, false, ◌||◌, is_some}
use Rattle.std.specs.List.{list_any}
use Rattle.std.proofs.lemmas.Bool.Decides.{nat_tests}
use Rattle.std.proofs.lemmas.Option.{slice_get-get_or}
use Rattle.std.proofs.lemmas.List.Folds.{list_any_at, list_any_more}
use Rattle.rv_shape.specs.Shape.{Shape}
use Rattle.rv_shape.specs.Catalogue.{UnitObject, all_objects, numbered}
use Rattle.rv_shape.specs.Names.{number_from, operation_names, operation_number, operation_number_in}
use Rattle.rv_shape.specs.declared.object.Object.TheVariants.{Suspension}
use Rattle.rv_notes.specs.Names.{has_somewhere, is_of_suspension}

place_at : (objects : List UnitObject) (i : ℕ) (d : UnitObject) → i < length objects → numbered objects (i + 1) ≡ Some (get_or objects i d)
place_at objects i d less =
    let counted : nat_lt (i + 1) 1 ≡ false = grind (arith, nat_tests) in
    let before : (i + 1) - 1 ≡ i = omega arith in
    (λ j. if counted j then None else slice_get objects (before j)) ∙ slice_get-get_or objects i d less

-- the number of an operation of the object behind so many
pub operation_at : (shapes : List Shape) (i : ℕ) (d : UnitObject) (name : List ℕ) → i < length (all_objects shapes)
    → operation_number shapes (i + 1) name ≡ number_from name 1 (operation_names (get_or (all_objects shapes) i d).object)
operation_at shapes i d name less = ap (operation_number_in name) (place_at (all_objects shapes) i d less)

-- an object has an operation of a name
abbrev has : List ℕ → UnitObject → Bool
has name at = is_some (number_from name 1 (operation_names at.object))

-- any object, to read a list by
abbrev any : UnitObject
any = record { unit = []; object = Suspension (record { name = []; is_visible = false }) }

pub found : (shapes : List Shape) (i : ℕ) (name : List ℕ) → i < length (all_objects shapes) → is_some (operation_number shapes (i + 1) name) ≡ true → has_somewhere shapes name ≡ true
found shapes i name less e =
    let there : has name (get_or (all_objects shapes) i any) ≡ true = sym (ap is_some (operation_at shapes i any name less)) ∙ e in
    by_test (is_of_suspension name) (list_any_at (has name) (all_objects shapes) i any less there)
  where
    by_test : (b : Bool) → list_any (has name) (all_objects shapes) ≡ true → (b || list_any (has name) (all_objects shapes)) ≡ true
    by_test true t = refl
    by_test false t = t

pub not_found : (shapes : List Shape) (i : ℕ) (name : List ℕ) → i < length (all_objects shapes) → is_some (operation_number shapes (i + 1) name) ≡ false
    → list_any (λ at. is_some (number_from name 1 (operation_names at.object))) (take i (all_objects shapes)) ≡ false
    → list_any (λ at. is_some (number_from name 1 (operation_names at.object))) (take (i + 1) (all_objects shapes)) ≡ false
not_found shapes i name less e none =
    let here : has name (get_or (all_objects shapes) i any) ≡ false = sym (ap is_some (operation_at shapes i any name less)) ∙ e in
    list_any_more (has name) (all_objects shapes) i any less ∙ (λ j. none j || here j)
