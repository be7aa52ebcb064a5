-- The outline of a unit text, and the shape of its unit (ISO/IEC 8652:2012, 9.1, 9.4, C.3.1, D.3, D.10).
use Rattle.std.specs.Prelude.{ℕ, ◌+◌, Bool, if◌then◌else◌, List, [], ◌∷◌, ◌++◌, map, Option, Some, None, slice_get, take}
use Rattle.std.specs.List.{list_any}
use Rattle.rv_tree.specs.Units.{UnitTree}
use Rattle.rv_shape.specs.declared.kind.Kind.{Kind}
use Rattle.rv_shape.specs.declared.object.Object.{Object}
use Rattle.rv_shape.specs.declared.object.Object.TheVariants as o
use Rattle.rv_shape.specs.Kinds.{is_handler}
use Rattle.rv_shape.specs.Limits.{last_priority, most_objects, most_operations, most_components, most_parameters}
use Rattle.rv_shape.specs.Objects.{OperationShape, ProtectedShape}
use Rattle.rv_shape.specs.Shape.{Shape}
use Rattle.rv_outline.specs.declared.outline.ObjectType.{ObjectType}
use Rattle.rv_outline.specs.declared.outline.ObjectType.TheVariants as sort
use Rattle.rv_outline.specs.declared.draft.OperationDraft.{OperationDraft}
use Rattle.rv_scope.specs.ByPlace.{at_place}
use Rattle.rv_scope.specs.Statics.{Table}
use Rattle.rv_outline.specs.Drafts.{Kinds, UnitDraft, ObjectDraft, Draft, priority_or}
use Rattle.rv_outline.specs.Declarations.{drafted}

-- the ceiling of a protected object that is given none (D.3), and of one with a handler (own)
abbrev pub default_ceiling : Bool → ℕ
default_ceiling has_handler = if has_handler then last_priority else 30

-- the kind that was given to an operation, else that of its declaration
abbrev pub kind_or : Kind → Option Kind → Kind
kind_or kind None = kind
kind_or kind (Some given) = given

-- an operation with its kind
abbrev pub operation_shape : Kinds → OperationDraft → OperationShape
operation_shape kinds draft = record draft.operation { kind = kind_or draft.operation.kind (at_place kinds draft.at) }

abbrev pub operation_shapes : Kinds → List OperationDraft → List OperationShape
operation_shapes kinds drafts = map (operation_shape kinds) drafts

-- a protected unit with these operations
abbrev pub unit_with : UnitDraft → List OperationShape → ProtectedShape
unit_with unit operations = record {
  name = unit.name;
  is_visible = unit.is_visible;
  ceiling = priority_or (default_ceiling (list_any (λ operation. is_handler operation.kind) operations)) unit.priority;
  components = unit.components;
  operations = operations;
}

-- a protected unit with its ceiling, components and operations
abbrev pub unit_shape : Kinds → UnitDraft → ProtectedShape
unit_shape kinds unit = unit_with unit (operation_shapes kinds unit.operations)

-- What is past the limits of a catalogue is cut behind the first that is too many: such a shape fits none.

abbrev pub cut_operation : OperationShape → OperationShape
cut_operation operation = record operation { parameters = take (most_parameters + 1) operation.parameters }

-- an object of a protected unit: each has its own components and ceiling
abbrev pub protected_object : ObjectDraft → ProtectedShape → Object
protected_object object unit = o.Protected (record {
  name = object.name;
  is_visible = object.is_visible;
  ceiling = unit.ceiling;
  components = take (most_components + 1) unit.components;
  operations = map cut_operation (take (most_operations + 1) unit.operations);
})

abbrev pub suspension_object : ObjectDraft → Object
suspension_object object = o.Suspension (record { name = object.name; is_visible = object.is_visible })

-- an object behind those that are there; all protected units have a number
abbrev pub with_protected : ObjectDraft → Option ProtectedShape → List Object → List Object
with_protected object None done = done
with_protected object (Some unit) done = done ++ protected_object object unit ∷ []

abbrev pub with_object : List ProtectedShape → ObjectDraft → ObjectType → List Object → List Object
with_object units object (sort.Protected number) done = with_protected object (slice_get units number) done
with_object units object sort.Suspension done = done ++ suspension_object object ∷ []

abbrev pub objects_onto : List ProtectedShape → List ObjectDraft → List Object → List Object
objects_onto units [] done = done
objects_onto units (object ∷ more) done = objects_onto units more (with_object units object object.of done)

-- what the declarations of a text mean
pub record OutlineView : Type 0 where
  -- something is wrong with the type of a declaration, which is left out
  pub told : Bool
  pub known : Table
  pub units : List ProtectedShape
  pub objects : List ObjectType
  pub shape : Shape

abbrev pub unit_shapes : Draft → List ProtectedShape
unit_shapes draft = map (unit_shape draft.kinds) draft.units

-- the shape of a unit of this name
abbrev pub shape_with : List ℕ → Draft → Shape
shape_with name draft = record {
  name = name;
  tasks = draft.tasks;
  objects = objects_onto (unit_shapes draft) (take (most_objects + 1) draft.objects) [];
}

abbrev pub outline_of : List ℕ → Draft → OutlineView
outline_of name draft = record {
  told = draft.told;
  known = draft.known;
  units = unit_shapes draft;
  objects = map (λ object. object.of) draft.objects;
  shape = shape_with name draft;
}

-- the outline of a text over the loaded units
abbrev pub outlined : List Shape → UnitTree → OutlineView
outlined shapes tree = outline_of tree.specification.name.text (drafted shapes tree)

-- the shape of a text's unit, unless something is wrong with the types of its declarations
abbrev pub shape_of : List Shape → UnitTree → Option Shape
shape_of shapes tree = if (outlined shapes tree).told then None else Some (outlined shapes tree).shape
