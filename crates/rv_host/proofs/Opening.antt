-- The barrier of an object that was found by an operation of it.
use Rattle.std.proofs.Common.{◌≡◌, ℕ, List, ap, sym}
use Rattle.std.specs.Prelude.{ℤ, Option}
use Rattle.rv_history.specs.Exclusion.{barrier_at, opens_on}
use Rattle.rv_present.proofs.Sites.{object_found}
use Rattle.rv_shape.specs.Catalogue.{OnProtected, Site, UnitObject, barrier, place, target}
use Rattle.rv_shape.specs.Readers.{site_of}
use Rattle.rv_shape.specs.Shape.{Shape}

-- it is open where that of the object of its number is
pub opens_found : (shapes : List Shape) (o p : ℕ) (site : Site) (values : List ℤ) → OnProtected site ≡ target shapes o p
    → opens_on (barrier site.object.operations) values ≡ opens_on (barrier_at (place shapes o)) values
opens_found shapes o p site values is =
    ap (λ (at : Option UnitObject). opens_on (barrier_at at) values) (sym (object_found shapes o p site (ap site_of (sym is))))
