-- Who may call what, by a list over the units that are loaded (own).
use Rattle.std.specs.Prelude.{ℕ, zero, suc, Bool, true, ◌&&◌, false, not, if◌then◌else◌, is_some, List, [], ◌∷◌, ◌++◌, length, codes, Option, Some, None}
use Rattle.rv_text.specs.Names.{is_same_name}
use Rattle.rv_access.specs.Words.{Words}
use Rattle.rv_shape.specs.Catalogue.{Target, Nowhere, OnProtected, OnSuspension, UnitObject, all_objects, place, suspension_operation_name, target}
use Rattle.rv_shape.specs.Kinds.{is_handler}
use Rattle.rv_shape.specs.Names.{operation_names}
use Rattle.rv_shape.specs.Shape.{Shape}
use Rattle.rv_history.specs.History.{History, force}
use Rattle.rv_refused.specs.Filters.{FilterText, takes_of}
use Rattle.rv_grants.specs.Differences.{differences_text}
use Rattle.rv_grants.specs.Grants.{Call, grants_text}

-- whose calls and calls of what are told, and whether as JSON
pub record WishText : Type 0 where
  pub filter : FilterText
  pub as_json : Bool

-- a call of a target by a unit, if there is such an operation, and the form in which it is told
abbrev pub call_of : Bool → List ℕ → Target → Option Call
call_of as_json caller Nowhere = None
call_of as_json caller (OnProtected site) =
    Some (record { caller = caller; unit = site.unit; object = site.object.name; operation = site.operation.name; as_json = as_json })
call_of as_json caller (OnSuspension unit object operation) =
    Some (record { caller = caller; unit = unit; object = object; operation = suspension_operation_name operation; as_json = as_json })

-- what a list grants of a call; with another list, where one of the two grants it and the other doesn't
abbrev pub told_of : List Words → Option (List Words) → Call → List ℕ
told_of list None call = grants_text list call
told_of list (Some other) call = differences_text list other call

abbrev pub grants_of : List Words → Option (List Words) → Option Call → List ℕ
grants_of list other None = []
grants_of list other (Some call) = told_of list other call

-- without a word each unit is taken
abbrev pub takes_unit : Option (List ℕ) → List ℕ → Bool
takes_unit None unit = true
takes_unit (Some word) unit = is_same_name word unit

-- what a unit is granted of a target, from which tick on
abbrev pub rights_of : WishText → List Words → Option (List Words) → Target → List ℕ → List ℕ
rights_of wish list other called caller = if takes_unit wish.filter.by caller then grants_of list other (call_of wish.as_json caller called) else []

-- what units are
abbrev pub rights_of_units : WishText → List Words → Option (List Words) → Target → List Shape → List ℕ
rights_of_units wish list other called [] = []
rights_of_units wish list other called (shape ∷ shapes) =
    rights_of wish list other called shape.name ++ rights_of_units wish list other called shapes

-- a handler, which a line may call (C.3)
abbrev pub is_handled : Target → Bool
is_handled Nowhere = false
is_handled (OnProtected site) = is_handler site.operation.kind
is_handled (OnSuspension unit object operation) = false

-- and what the lines are
abbrev pub rights_of_lines : WishText → List Words → Option (List Words) → Target → List ℕ
rights_of_lines wish list other called = if is_handled called then rights_of wish list other called (codes "Interrupts") else []

-- what all are granted of an operation, if that is taken
abbrev pub rights_at : WishText → List Words → Option (List Words) → List Shape → Target → List ℕ
rights_at wish list other shapes called =
    if takes_of wish.filter.of called then rights_of_units wish list other called shapes ++ rights_of_lines wish list other called else []

-- of the first so many operations of an object
abbrev pub rights_on : WishText → List Words → Option (List Words) → List Shape → ℕ → ℕ → List ℕ
rights_on wish list other shapes object zero = []
rights_on wish list other shapes object (suc operation) =
    rights_on wish list other shapes object operation ++ rights_at wish list other shapes (target shapes object (suc operation))

-- how many an object has, if there is one
abbrev pub operation_count : Option UnitObject → ℕ
operation_count None = 0
operation_count (Some at) = length (operation_names at.object)

-- of the first so many objects
abbrev pub rights_below : WishText → List Words → Option (List Words) → List Shape → ℕ → List ℕ
rights_below wish list other shapes zero = []
rights_below wish list other shapes (suc object) =
    rights_below wish list other shapes object
    ++ rights_on wish list other shapes (suc object) (operation_count (place shapes (suc object)))

-- that there is no difference, where nothing is said
abbrev pub or_no_text : List ℕ → List ℕ
or_no_text [] = codes "no difference" ++ 10 ∷ []
or_no_text (byte ∷ bytes) = byte ∷ bytes

-- so of two lists, but not as JSON
abbrev pub tells_none : WishText → Option (List Words) → Bool
tells_none wish other = is_some other && not wish.as_json

-- of all, by the list in force behind a history and the units that it loaded; with another list, by both
abbrev pub rights_text : WishText → Option (List Words) → History → List ℕ
rights_text wish other h =
    let text : List ℕ = rights_below wish (force h) other h.shapes (length (all_objects h.shapes)) in
    if tells_none wish other then or_no_text text else text
