-- What the looks at restrictions and names find, put together.
use Rattle.std.proofs.Common.{◌≡◌, ℕ, true, List, subst, sym}
use Rattle.rv_shape.specs.Shape.{Shape}
use Rattle.rv_tree.specs.Units.{UnitTree}
use Rattle.rv_restrict.specs.Conforms.{Conforms}
use Rattle.rv_scope.specs.Bound.{AllBound, uses}
use Rattle.rv_distinct.specs.Regions.{names_are_distinct}
use Rattle.rv_distinct.specs.BodyNames.{has_one_body_each}
use Rattle.rv_conform.specs.Conforms.{bodies_conform}
use Rattle.rv_names.specs.Completed.{unit_is_completed, operations_are_completed}
use Rattle.rv_names.specs.EndNames.{unit_ends}
use Rattle.rv_names.specs.Jumps.{unit_is_placed}
use Rattle.rv_static.specs.declared.fault.TypeFault.TheVariants as type
use Rattle.rv_unit.specs.declared.fault.UnitFault.TheVariants.{Types}
use Rattle.rv_unit.specs.Compiles.{GivesUnit, IsBound, IsOfTree}

-- for whatever is equal to the units and to the tree
pub bound_as : (shapes others : List Shape) (tree other : UnitTree)
    → others ≡ shapes → other ≡ tree
    → Conforms tree → AllBound (uses shapes tree)
    → unit_is_completed tree ≡ true → operations_are_completed tree ≡ true → bodies_conform shapes tree ≡ true
    → unit_ends tree ≡ true → unit_is_placed tree ≡ true
    → names_are_distinct tree ≡ true → has_one_body_each tree ≡ true
    → IsBound others other
bound_as shapes others tree other same_units same_tree conforms bound completed operations profiles ends placed distinct one_body =
    let here : IsBound shapes tree = record { conforms = conforms; bound = bound; completed = completed; operations = operations; profiles = profiles; ends = ends; placed = placed; distinct = distinct; one_body = one_body } in
    subst (λ (units : List Shape). IsBound units other) (sym same_units) (subst (λ (t : UnitTree). IsBound shapes t) (sym same_tree) here)

-- a mismatch may be told of any tree whose names are bound
pub mismatch_of_tree : (shapes : List Shape) (tree : UnitTree) (shape : Shape) (at : ℕ) → GivesUnit shapes tree shape
    → IsOfTree shapes tree (Types (type.Mismatch at))
mismatch_of_tree shapes tree shape at gives = (gives.has.bound, λ no. cc no)
