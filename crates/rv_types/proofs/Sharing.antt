-- Bodies that the objects of a protected unit share.
use Rattle.std.proofs.Common.{◌≡◌, ℕ, ◌+◌, Bool, true, List, ◌∷◌, Option, Some, None, sym, ap, ◌∙◌}
use Rattle.std.specs.Prelude.{if◌then◌else◌, nat_lt, slice_set}
use Rattle.rv_static.specs.Static.{◌>>=◌}
use Rattle.rv_tree.specs.Bodies.{OperationBody}
use Rattle.rv_scope.specs.Scope.{ScopeView}
use Rattle.rv_outline.specs.declared.outline.ObjectType.{ObjectType}
use Rattle.rv_code.specs.Bodies.{Body, UnitBodies}
use Rattle.rv_types.specs.BodiesOf.{Setting, bodies_of_unit, object_compiled, perhaps_compiled, objects_compiled, unit_bodies}

-- an object has these bodies where it was given a list of them
pub list_given : (index : ℕ) (u v w : UnitBodies) (list these : List Body) → v ≡ u → list ≡ these
    → w ≡ record v { objects = slice_set v.objects index list } → object_compiled these index u ≡ Some w
list_given index u v w list these same is given =
    sym (ap Some given ∙ (λ i. Some (record (same i) { objects = slice_set (same i).objects index (is i) })))

-- one object, and those behind it
pub one_more : (bodies : List Body) (number index : ℕ) (object : ObjectType) (more : List ObjectType) (u v : UnitBodies)
    → nat_lt index 4294967296 ≡ true → perhaps_compiled bodies number index object u ≡ Some v
    → objects_compiled bodies number index (object ∷ more) u ≡ objects_compiled bodies number (index + 1) more v
one_more bodies number index object more u v small here =
    ap (λ (b : Bool). if b then (perhaps_compiled bodies number index object u >>= objects_compiled bodies number (index + 1) more) else None) small
    ∙ ap (λ (o : Option UnitBodies). o >>= objects_compiled bodies number (index + 1) more) here

-- each object has the bodies of the unit
pub shared : (s : Setting) (scope : ScopeView) (number : ℕ) (bodies : List OperationBody) (same : List Body) (u w : UnitBodies)
    → bodies_of_unit s scope number bodies ≡ Some same → objects_compiled same number 0 s.outline.objects u ≡ Some w
    → unit_bodies s scope number bodies u ≡ Some w
shared s scope number bodies same u w is all =
    ap (λ (o : Option (List Body)). o >>= λ these. objects_compiled these number 0 s.outline.objects u) is ∙ all
