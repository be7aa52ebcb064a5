-- The table that an access list is compiled to, over the units that are loaded (own).
use Rattle.std.specs.Prelude.{ℕ, ◌≡◌, ◌≤◌, Bool, false, length, List, [], ◌∷◌, map, codes, slice_get, Some, None, Option}
use Rattle.std.specs.List.{AllZip}
use Rattle.rv_access.specs.Limits.{most_lines}
use Rattle.rv_access.specs.Words.{Words}
use Rattle.rv_access.specs.Lines.{decides, grants, allows, line_at}
use Rattle.rv_shape.specs.Catalogue.{UnitObject, Target, all_objects, by_names, dotted, numbered, target}
use Rattle.rv_shape.specs.Fits.{object_name}
use Rattle.rv_shape.specs.Names.{operation_names}
use Rattle.rv_shape.specs.Shape.{Shape}
use Rattle.rv_table.specs.Rows.{IsRow, of_caller, of_site, is_allowing}
use Rattle.rv_table.specs.Spans.{IsSpans, SpanMarks}

-- who may call, by number: 0 is the home of the lines, and the units follow in the order of load
abbrev pub callers : List Shape → List (List ℕ)
callers shapes = codes "Interrupts" ∷ map (λ shape. shape.name) shapes

-- the line that decides a call by this caller at a tick, 0 where none does
abbrev pub decided_at : List Words → Option (List ℕ) → Target → ℕ → ℕ
decided_at list None called tick = 0
decided_at list (Some unit) called tick = by_names 0 (λ object operation. decides list unit object operation tick) called

-- whether the list grants a call by this caller at a tick
abbrev pub granted_at : List Words → Option (List ℕ) → Target → ℕ → Bool
granted_at list None called tick = false
granted_at list (Some unit) called tick = by_names false (λ object operation. grants list unit object operation tick) called

-- the line that decides a call at a tick by the caller of a number, of the operation of these numbers
abbrev pub decided : List Words → List Shape → ℕ → ℕ → ℕ → ℕ → ℕ
decided list shapes unit object operation tick =
    decided_at list (slice_get (callers shapes) unit) (target shapes object operation) tick

-- whether the list grants that call
abbrev pub granted : List Words → List Shape → ℕ → ℕ → ℕ → ℕ → Bool
granted list shapes unit object operation tick =
    granted_at list (slice_get (callers shapes) unit) (target shapes object operation) tick

-- what contracts see of a table: the rows of each caller, of each operation of each object, of a caller without a name, and of
-- the lines that allow; those of the spans between the ends of windows; and how many lines there are
pub record Marks : Type 0 where
  pub callers : List (List ℕ)
  pub objects : List (List (List ℕ))
  pub nameless : List ℕ
  pub allowing : List ℕ
  pub spans : SpanMarks
  pub lines : ℕ

-- the row of a caller
abbrev pub IsCaller : List Words → List ℕ → List ℕ → Type 0
IsCaller list unit row = IsRow (of_caller unit) list row

-- the row of an operation of the object of a name
abbrev pub IsSite : List Words → List ℕ → List ℕ → List ℕ → Type 0
IsSite list object operation row = IsRow (of_site object operation) list row

-- the rows of the operations of an object
abbrev pub AreSites : List Words → UnitObject → List (List ℕ) → Type 0
AreSites list at rows = AllZip (IsSite list (dotted at.unit (object_name at.object))) (operation_names at.object) rows

-- the row of the operation of these numbers, each from 1, if there is one
abbrev pub row_in : Option (List (List ℕ)) → ℕ → Option (List ℕ)
row_in None operation = None
row_in (Some rows) operation = numbered rows operation

abbrev pub row_of : List (List (List ℕ)) → ℕ → ℕ → Option (List ℕ)
row_of objects object operation = row_in (numbered objects object) operation

-- whether the line of a number allows; 0 is of none
abbrev pub allowed : List Words → ℕ → Bool
allowed list number = allows (line_at list number)

-- the table of a list over the units that are loaded
pub record IsTable (list : List Words) (shapes : List Shape) (t : Marks) : Type 0 where
  pub few : length list ≤ most_lines
  pub count : t.lines ≡ length list
  pub callers : AllZip (IsCaller list) (callers shapes) t.callers
  pub objects : AllZip (AreSites list) (all_objects shapes) t.objects
  pub nameless : IsCaller list [] t.nameless
  pub allowing : IsRow is_allowing list t.allowing
  pub spans : IsSpans list t.spans
