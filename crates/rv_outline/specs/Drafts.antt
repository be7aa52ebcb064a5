-- What a walk through the declarations of a text has found so far (own).
use Rattle.std.specs.Prelude.{ℕ, ◌+◌, Bool, true, false, List, [], ◌∷◌, ◌++◌, Option, Some, None, length}
use Rattle.rv_tree.specs.Names.{Identifier}
use Rattle.rv_shape.specs.declared.kind.Component.{Component}
use Rattle.rv_shape.specs.declared.kind.Kind.{Kind}
use Rattle.rv_shape.specs.Objects.{OperationShape, TaskShape}
use Rattle.rv_static.specs.Told.{told_unless}
use Rattle.rv_scope.specs.ByPlace.{ByPlace, with_place}
use Rattle.rv_scope.specs.Subtypes.{knowing_if}
use Rattle.rv_scope.specs.declared.known.Known.{Known}
use Rattle.rv_scope.specs.declared.known.Known.TheVariants as k
use Rattle.rv_outline.specs.declared.outline.ObjectType.{ObjectType}
use Rattle.rv_outline.specs.declared.draft.OperationDraft.{OperationDraft}
use Rattle.rv_scope.specs.Statics.{Table, default_priority}

-- the kinds that aspects, pragmas and bodies give to operations, by the places of their identifiers: those of handlers
-- (C.3.1), and those of entries, with their barriers (9.5.2)
abbrev pub Kinds : Type 0
Kinds = ByPlace Kind

-- a protected unit or a task, as far as it is declared
pub record UnitDraft : Type 0 where
  pub name : List ℕ
  pub is_visible : Bool
  pub priority : Option ℕ
  pub components : List Component
  pub operations : List OperationDraft

-- an object of the package
pub record ObjectDraft : Type 0 where
  pub name : List ℕ
  pub is_visible : Bool
  pub of : ObjectType

-- what was found so far
pub record Draft : Type 0 where
  -- a fault was told of a declaration, which is left out
  pub told : Bool
  pub known : Table
  pub kinds : Kinds
  -- the protected unit or the task that is being declared
  pub current : UnitDraft
  -- the protected units in the order of their numbers
  pub units : List UnitDraft
  -- the number of the first object
  pub first : ℕ
  pub objects : List ObjectDraft
  pub tasks : List TaskShape

abbrev pub empty_unit : List ℕ → Bool → UnitDraft
empty_unit name is_visible =
    record { name = name; is_visible = is_visible; priority = None; components = []; operations = [] }

-- before the declarations of a text, behind so many objects
abbrev pub empty_draft : ℕ → Draft
empty_draft objects = record {
  told = false;
  known = [];
  kinds = [];
  current = empty_unit [] false;
  units = [];
  first = objects + 1;
  objects = [];
  tasks = [];
}

-- what follows where something was found; else a fault is told
abbrev pub noted : {X : Type 0} → Option X → (X → Draft → Draft) → Draft → Draft
noted None next draft = record draft { told = true }
noted (Some found) next draft = next found draft

-- something is known of the declaration of an identifier
abbrev pub knowing : Identifier → Known → Draft → Draft
knowing i known draft = record draft { known = with_place draft.known i.at known }

-- what was found of the declaration of these identifiers is known; else a fault is told
abbrev pub knowing_found : Option Known → List Identifier → Draft → Draft
knowing_found found names draft =
    record draft { told = told_unless found draft.told; known = knowing_if found names draft.known }

-- Protected units and tasks

-- the declaration of a protected unit or a task begins
abbrev pub started : Identifier → Bool → Draft → Draft
started i is_visible draft = record draft { current = empty_unit i.text is_visible }

-- a priority is given to it (D.1, D.3)
abbrev pub giving_priority : ℕ → Draft → Draft
giving_priority priority draft = record draft { current = record draft.current { priority = Some priority } }

-- it has one more component
abbrev pub adding_component : Component → Identifier → Draft → Draft
adding_component component i draft =
    record (knowing i (k.Component (length draft.current.components) component.range) draft)
    { current = record draft.current { components = draft.current.components ++ component ∷ [] } }

abbrev pub adding_components : List Identifier → Component → Draft → Draft
adding_components [] component draft = draft
adding_components (i ∷ more) component draft = adding_components more component (adding_component component i draft)

-- it has one more operation
abbrev pub adding_operation : Identifier → OperationShape → Draft → Draft
adding_operation i operation draft =
    record (knowing i (k.Operation (length draft.units) (length draft.current.operations)) draft) {
      current = record draft.current {
        operations = draft.current.operations ++ record { at = i.at; operation = operation } ∷ [];
      };
    }

-- it has one more, where that was found: a fault was told before
abbrev pub adding_found : Identifier → Option OperationShape → Draft → Draft
adding_found i None draft = draft
adding_found i (Some operation) draft = adding_operation i operation draft

-- a kind is given to the operation of this place
abbrev pub having_kind : ℕ → Kind → Draft → Draft
having_kind at kind draft = record draft { kinds = with_place draft.kinds at kind }

-- the protected unit is declared
abbrev pub finished : Draft → Draft
finished draft = record draft { units = draft.units ++ draft.current ∷ []; current = empty_unit [] false }

-- the priority of what is being declared, and where none is given another
abbrev pub priority_or : ℕ → Option ℕ → ℕ
priority_or other None = other
priority_or other (Some priority) = priority

-- the task is declared (9.1)
abbrev pub finished_task : Draft → Draft
finished_task draft = record draft {
  tasks = draft.tasks ++ record {
    name = draft.current.name;
    priority = priority_or default_priority draft.current.priority;
  } ∷ [];
  current = empty_unit [] false;
}

-- Objects (9.4, D.10)

-- there is one more object: its number follows the one before it
abbrev pub adding_object : Bool → ObjectType → Identifier → Draft → Draft
adding_object is_visible of i draft =
    record (knowing i (k.Object (draft.first + length draft.objects)) draft)
    { objects = draft.objects ++ record { name = i.text; is_visible = is_visible; of = of } ∷ [] }

abbrev pub adding_objects : Bool → ObjectType → List Identifier → Draft → Draft
adding_objects is_visible of [] draft = draft
adding_objects is_visible of (i ∷ more) draft = adding_objects is_visible of more (adding_object is_visible of i draft)
