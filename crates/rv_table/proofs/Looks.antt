-- What the rows of a table decide.
use Rattle.std.proofs.Common.{refl, sym, ap, subst, ◌≡◌, ◌∙◌, ℕ, zero, suc, ◌+◌, ◌-◌, ◌≤◌, List, [], ◌∷◌, map, length, Bool, true, false, Some, None, Option, arith}
use Rattle.std.specs.Prelude.{slice_get, if◌then◌else◌, ◌==◌, nat_lt}
use Rattle.std.specs.Option.{option_map}
use Rattle.std.specs.List.{AllZip}
use Rattle.std.proofs.lemmas.Option.{slice_get-map}
use Rattle.rv_access.specs.Words.{Words}
use Rattle.rv_access.specs.Lines.{decides, grants, matches}
use Rattle.rv_shape.specs.Catalogue.{Target, UnitObject, all_objects, at_object, at_operation, at_suspension, at_unit_object, by_names, dotted, numbered, place, suspension_operation_name, suspension_operations, target}
use Rattle.rv_shape.specs.Fits.{object_name}
use Rattle.rv_shape.specs.Names.{operation_names}
use Rattle.rv_shape.specs.Objects.{OperationShape}
use Rattle.rv_shape.specs.Shape.{Shape}
use Rattle.rv_shape.specs.declared.object.Object.{Object}
use Rattle.rv_shape.specs.declared.object.Object.TheVariants.{Protected, Suspension}
use Rattle.rv_shape.specs.declared.suspension.SuspensionOperation.{SuspensionOperation}
use Rattle.rv_table.specs.Rows.{IsRow, of_site}
use Rattle.rv_table.specs.Tables.{AreSites, IsCaller, IsSite, IsTable, Marks, decided_at, granted_at, row_in, row_of}

-- both are there, and R holds of them, or neither is
abbrev pub Both : {A B : Type 0} → (A → B → Type 0) → Option A → Option B → Type 0
Both R None None = Unit {0}
Both R None (Some y) = ⊥
Both R (Some x) None = ⊥
Both R (Some x) (Some y) = R x y

pub get_both : {A B : Type 0} (R : A → B → Type 0) (xs : List A) (ys : List B) (k : ℕ) → AllZip R xs ys → Both R (slice_get xs k) (slice_get ys k)
get_both R [] [] k all = tt {0}
get_both R [] (y ∷ ys) k all = absurd all
get_both R (x ∷ xs) [] k all = absurd all
get_both R (x ∷ xs) (y ∷ ys) zero all = all.0
get_both R (x ∷ xs) (y ∷ ys) (suc k) all = get_both R xs ys k all.1

pub numbered_both : {A B : Type 0} (R : A → B → Type 0) (xs : List A) (ys : List B) (n : ℕ) → AllZip R xs ys → Both R (numbered xs n) (numbered ys n)
numbered_both R xs ys n all = by_test (nat_lt n 1)
  where
    by_test : (b : Bool) → Both R (if b then None else slice_get xs (n - 1)) (if b then None else slice_get ys (n - 1))
    by_test true = tt {0}
    by_test false = get_both R xs ys (n - 1) all

numbered_map : {A B : Type 0} (f : A → B) (xs : List A) (n : ℕ) → numbered (map f xs) n ≡ option_map f (numbered xs n)
numbered_map f xs n = by_test (nat_lt n 1)
  where
    by_test : (b : Bool) → (if b then None else slice_get (map f xs) (n - 1)) ≡ option_map f (if b then None else slice_get xs (n - 1))
    by_test true = refl
    by_test false = slice_get-map f xs (n - 1)

-- what is said of a call by its names
abbrev by_name : {X : Type 0} → X → (List ℕ → X) → Option (List ℕ) → X
by_name none says None = none
by_name none says (Some name) = says name

-- the line that decides at a tick, and whether it grants
abbrev line_by : List Words → List ℕ → ℕ → List ℕ → List ℕ → ℕ
line_by list unit tick object operation = decides list unit object operation tick

abbrev grant_by : List Words → List ℕ → ℕ → List ℕ → List ℕ → Bool
grant_by list unit tick object operation = grants list unit object operation tick

at_names : {X : Type 0} (none : X) (says : List ℕ → List ℕ → X) (unit : List ℕ) (object : Object) (operation : ℕ) → by_names none says (at_object operation unit object) ≡ by_name none (says (dotted unit (object_name object))) (numbered (operation_names object) operation)
at_names none says unit (Protected p) operation =
    of_operation (numbered p.operations operation)
    ∙ ap (by_name none (says (dotted unit p.name))) (sym (numbered_map (λ (o : OperationShape). o.name) p.operations operation))
  where
    of_operation : (o : Option OperationShape) → by_names none says (at_operation unit p o) ≡ by_name none (says (dotted unit p.name)) (option_map (λ (o : OperationShape). o.name) o)
    of_operation None = refl
    of_operation (Some o) = refl
at_names none says unit (Suspension s) operation =
    of_operation (numbered suspension_operations operation)
    ∙ ap (by_name none (says (dotted unit s.name))) (sym (numbered_map suspension_operation_name suspension_operations operation))
  where
    of_operation : (o : Option SuspensionOperation) → by_names none says (at_suspension unit s.name o) ≡ by_name none (says (dotted unit s.name)) (option_map suspension_operation_name o)
    of_operation None = refl
    of_operation (Some o) = refl

-- where the row of an operation is there, its names are those of the call
pub record Found (list : List Words) (called : Target) (row : List ℕ) : Type 0 where
  pub site : List ℕ
  pub name : List ℕ
  pub is_row : IsRow (of_site site name) list row
  pub line : (unit : List ℕ) (tick : ℕ) → decided_at list (Some unit) called tick ≡ decides list unit site name tick
  pub grant : (unit : List ℕ) (tick : ℕ) → granted_at list (Some unit) called tick ≡ grants list unit site name tick

-- a call is of the operation of a row, or of nothing where there is none
abbrev Seen : List Words → Target → Option (List ℕ) → Type 0
Seen list called None = ((unit : List ℕ) (tick : ℕ) → decided_at list (Some unit) called tick ≡ 0) × ((unit : List ℕ) (tick : ℕ) → granted_at list (Some unit) called tick ≡ false)
Seen list called (Some row) = Found list called row

of_names : (list : List Words) (unit : List ℕ) (object : Object) (operation : ℕ) (name row : Option (List ℕ)) → numbered (operation_names object) operation ≡ name → Both (IsSite list (dotted unit (object_name object))) name row → Seen list (at_object operation unit object) row
of_names list unit object operation None None is both = (
  (λ caller tick. at_names 0 (line_by list caller tick) unit object operation ∙ ap (by_name 0 (line_by list caller tick (dotted unit (object_name object)))) is),
  (λ caller tick. at_names false (grant_by list caller tick) unit object operation ∙ ap (by_name false (grant_by list caller tick (dotted unit (object_name object)))) is),
)
of_names list unit object operation None (Some row) is both = absurd both
of_names list unit object operation (Some name) None is both = absurd both
of_names list unit object operation (Some name) (Some row) is both = record {
  site = dotted unit (object_name object);
  name = name;
  is_row = both;
  line = λ caller tick. at_names 0 (line_by list caller tick) unit object operation ∙ ap (by_name 0 (line_by list caller tick (dotted unit (object_name object)))) is;
  grant = λ caller tick. at_names false (grant_by list caller tick) unit object operation ∙ ap (by_name false (grant_by list caller tick (dotted unit (object_name object)))) is;
}

of_place : (list : List Words) (operation : ℕ) (at : Option UnitObject) (rows : Option (List (List ℕ))) → Both (AreSites list) at rows → Seen list (at_unit_object operation at) (row_in rows operation)
of_place list operation None None both = ((λ unit tick. refl), (λ unit tick. refl))
of_place list operation None (Some rows) both = absurd both
of_place list operation (Some at) None both = absurd both
of_place list operation (Some at) (Some rows) both =
    of_names list at.unit at.object operation (numbered (operation_names at.object) operation) (numbered rows operation) refl (numbered_both (IsSite list (dotted at.unit (object_name at.object))) (operation_names at.object) rows operation both)

pub seen : (list : List Words) (shapes : List Shape) (t : Marks) (object operation : ℕ) → IsTable list shapes t → Seen list (target shapes object operation) (row_of t.objects object operation)
seen list shapes t object operation is =
    of_place list operation (place shapes object) (numbered t.objects object) (numbered_both (AreSites list) (all_objects shapes) t.objects object is.objects)

-- the names of the operation that is called, where its row is there
pub found : (list : List Words) (shapes : List Shape) (t : Marks) (object operation : ℕ) (row : List ℕ) → IsTable list shapes t → row_of t.objects object operation ≡ Some row → Found list (target shapes object operation) row
found list shapes t object operation row is there =
    subst (λ (r : Option (List ℕ)). Seen list (target shapes object operation) r) there (seen list shapes t object operation is)

-- where it isn't there, nothing is called
pub unseen : (list : List Words) (shapes : List Shape) (t : Marks) (object operation : ℕ) (caller : List ℕ) (tick : ℕ) → IsTable list shapes t → row_of t.objects object operation ≡ None
    → (decided_at list (Some caller) (target shapes object operation) tick ≡ 0) × (granted_at list (Some caller) (target shapes object operation) tick ≡ false)
unseen list shapes t object operation caller tick is none =
    let nothing : Seen list (target shapes object operation) None = subst (λ (r : Option (List ℕ)). Seen list (target shapes object operation) r) none (seen list shapes t object operation is) in
    (nothing.0 caller tick, nothing.1 caller tick)

-- the caller of a row
pub caller_of : (list : List Words) (names : List (List ℕ)) (rows : List (List ℕ)) (unit : ℕ) (row : List ℕ) → AllZip (IsCaller list) names rows → slice_get rows unit ≡ Some row
    → (name : List ℕ) × (slice_get names unit ≡ Some name) × IsCaller list name row
caller_of list names rows unit row all here = by_both (slice_get names unit) (slice_get rows unit) refl here (get_both (IsCaller list) names rows unit all)
  where
    by_both : (name row' : Option (List ℕ)) → slice_get names unit ≡ name → row' ≡ Some row → Both (IsCaller list) name row' → (name : List ℕ) × (slice_get names unit ≡ Some name) × IsCaller list name row
    by_both None None is here both = absurd (cc)
    by_both None (Some row') is here both = absurd both
    by_both (Some name) row' is here both = (name, is, subst (λ (r : Option (List ℕ)). Both (IsCaller list) (Some name) r) here both)

-- a line that decides is one of the list
pub decides_few : (list : List Words) (unit object operation : List ℕ) (tick : ℕ) → decides list unit object operation tick ≤ length list
decides_few [] unit object operation tick = omega arith
decides_few (line ∷ list) unit object operation tick =
    by_test (decides_few list unit object operation tick) (decides list unit object operation tick == 0) (matches line unit object operation tick)
  where
    by_test : decides list unit object operation tick ≤ length list → (none fits : Bool) → (if none then (if fits then 1 else 0) else decides list unit object operation tick + 1) ≤ suc (length list)
    by_test few true true = omega arith
    by_test few true false = omega arith
    by_test few false fits = omega (arith, few)
