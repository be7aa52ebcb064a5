-- Names in access lists that name nothing of what is loaded (own). What is loaded is found as the catalogue finds it.
use Rattle.std.specs.Prelude.{ℕ, Bool, false, not, nat_lt, ◌&&◌, ◌||◌, if◌then◌else◌, List, length, codes, is_some, Option, Some, None}
use Rattle.std.specs.Str.{bytes_eq}
use Rattle.std.specs.List.{list_any}
use Rattle.rv_text.specs.Names.{dotted_parts, is_same_name}
use Rattle.rv_near.specs.Near.{is_near}
use Rattle.rv_access.specs.Words.{Words}
use Rattle.rv_shape.specs.Shape.{Shape}
use Rattle.rv_shape.specs.Catalogue.{all_objects, suspension_operations, suspension_operation_name}
use Rattle.rv_shape.specs.Names.{number_from, operation_names, unit_number, object_number, operation_number}

-- the word that fits all names
abbrev pub is_star : List ℕ → Bool
is_star word = bytes_eq word (codes "*")

-- a word is near to the name of a unit that is loaded
abbrev pub is_near_unit : List Shape → List ℕ → Bool
is_near_unit shapes word = list_any (λ shape. is_near word shape.name) shapes

-- the home of the lines
abbrev pub interrupts : List ℕ
interrupts = codes "Interrupts"

-- a word that names all callers, the home of the lines, or a unit that is loaded
abbrev pub names_caller : List Shape → List ℕ → Bool
names_caller shapes word = is_star word || is_same_name word interrupts || is_some (unit_number shapes word)

-- over what a list is judged: the units that are loaded, or that a script loads; whether no others can come, as they can in a run;
-- and the clock
pub record Scene : Type 0 where
  pub shapes : List Shape
  pub is_closed : Bool
  pub clock : ℕ

-- whether it is told of a line that it names no unit: of one that denies, and where no others can come, in any case, else where
-- the word is near to a name
abbrev pub is_told : Scene → Words → Bool → Bool
is_told scene line near = not line.allow || (scene.is_closed || near)

-- there are units to be named
abbrev pub has_units : Scene → Bool
has_units scene = nat_lt 0 (length scene.shapes)

-- the unit that calls: a word that names none, where that is told
abbrev pub lacks_caller : Scene → Words → Bool
lacks_caller scene line =
    (has_units scene && not (names_caller scene.shapes line.unit))
    && is_told scene line (is_near line.unit interrupts || is_near_unit scene.shapes line.unit)

-- the unit of the object, of an object's two names: none that there is, where that is told
abbrev pub lacks_home_of : Scene → Words → Option (List ℕ × List ℕ) → Bool
lacks_home_of scene line None = false
lacks_home_of scene line (Some parts) =
    (has_units scene && not (is_some (unit_number scene.shapes parts.0))) && is_told scene line (is_near_unit scene.shapes parts.0)

abbrev pub lacks_home : Scene → Words → Bool
lacks_home scene line = lacks_home_of scene line (dotted_parts line.object)

-- the object, of its whole name and its two names: its unit is loaded, and has no such object
abbrev pub lacks_object_of : List Shape → List ℕ → Option (List ℕ × List ℕ) → Bool
lacks_object_of shapes word None = false
lacks_object_of shapes word (Some parts) = is_some (unit_number shapes parts.0) && not (is_some (object_number shapes word))

abbrev pub lacks_object : Scene → Words → Bool
lacks_object scene line = lacks_object_of scene.shapes line.object (dotted_parts line.object)

-- the operations of suspension objects (D.10)
abbrev pub is_of_suspension : List ℕ → Bool
is_of_suspension name = list_any (λ operation. is_same_name name (suspension_operation_name operation)) suspension_operations

-- some object that is loaded has an operation of this name, or each suspension object would
abbrev pub has_somewhere : List Shape → List ℕ → Bool
has_somewhere shapes name =
    is_of_suspension name || list_any (λ at. is_some (number_from name 1 (operation_names at.object))) (all_objects shapes)

-- the object of this number has no operation of this name
abbrev pub lacks_at : List Shape → List ℕ → Option ℕ → Bool
lacks_at shapes name None = false
lacks_at shapes name (Some object) = not (is_some (operation_number shapes object name))

-- the operation: the object is loaded, and has none of this name; or, of all objects, some are loaded, and none has it
abbrev pub lacks_operation : Scene → Words → Bool
lacks_operation scene line =
    if is_star line.operation then false
    else if is_star line.object then nat_lt 0 (length (all_objects scene.shapes)) && not (has_somewhere scene.shapes line.operation)
    else lacks_at scene.shapes line.operation (object_number scene.shapes line.object)
