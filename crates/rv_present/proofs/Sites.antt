-- The object of an operation that was found is the object of its number.
use Rattle.std.proofs.Common.{◌≡◌, ℕ, List, ap, sym}
use Rattle.std.specs.Prelude.{Option, Some, None}
use Rattle.rv_shape.specs.Catalogue.{Site, UnitObject, at_operation, at_suspension, at_object, at_unit_object, ceiling, ceiling_at, numbered, place, suspension_operations, target}
use Rattle.rv_shape.specs.Readers.{site_of}
use Rattle.rv_shape.specs.Objects.{OperationShape, ProtectedShape}
use Rattle.rv_shape.specs.Shape.{Shape}
use Rattle.rv_shape.specs.declared.object.Object.{Object}
use Rattle.rv_shape.specs.declared.object.Object.TheVariants.{Protected, Suspension}
use Rattle.rv_shape.specs.declared.suspension.SuspensionOperation.{SuspensionOperation}

-- the object of a site, in its unit
abbrev pub object_of : Site → UnitObject
object_of site = record { unit = site.unit; object = Protected site.object }

by_operation : (unit : List ℕ) (object : ProtectedShape) (found : Option OperationShape) (site : Site) → site_of (at_operation unit object found) ≡ Some site
    → record { unit = unit; object = Protected object } ≡ object_of site
by_operation unit object None site is = absurd (cc)
by_operation unit object (Some operation) site is = ap or_this is
  where
    or_this : Option Site → UnitObject
    or_this None = record { unit = unit; object = Protected object }
    or_this (Some found) = object_of found

no_site : (unit name : List ℕ) (deed : Option SuspensionOperation) (at : UnitObject) (site : Site) → site_of (at_suspension unit name deed) ≡ Some site → at ≡ object_of site
no_site unit name None at site is = absurd (cc)
no_site unit name (Some deed) at site is = absurd (cc)

by_object : (p : ℕ) (unit : List ℕ) (object : Object) (site : Site) → site_of (at_object p unit object) ≡ Some site
    → record { unit = unit; object = object } ≡ object_of site
by_object p unit (Protected object) site is = by_operation unit object (numbered object.operations p) site is
by_object p unit (Suspension object) site is =
    no_site unit object.name (numbered suspension_operations p) (record { unit = unit; object = Suspension object }) site is

by_place : (p : ℕ) (at : Option UnitObject) (site : Site) → site_of (at_unit_object p at) ≡ Some site → at ≡ Some (object_of site)
by_place p None site is = absurd (cc)
by_place p (Some at) site is = ap Some (by_object p at.unit at.object site is)

pub object_found : (shapes : List Shape) (o p : ℕ) (site : Site) → site_of (target shapes o p) ≡ Some site → place shapes o ≡ Some (object_of site)
object_found shapes o p site is = by_place p (place shapes o) site is

-- so its ceiling is
pub ceiling_found : (shapes : List Shape) (o p : ℕ) (site : Site) → Some site ≡ site_of (target shapes o p) → site.object.ceiling ≡ ceiling shapes o
ceiling_found shapes o p site is = sym (ap ceiling_at (object_found shapes o p site (sym is)))
