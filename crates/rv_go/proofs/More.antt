-- The bodies of one unit more.
use Rattle.std.proofs.Common.{◌≡◌, List, [], ◌∷◌, ◌++◌, map, refl, ap, sym, ◌∙◌}
use Rattle.rv_code.specs.Bodies as Code
use Rattle.rv_code.specs.BodyView.{unit_view}
use Rattle.rv_code.specs.declared.body.UnitBodies.{UnitBodies}
use Rattle.rv_exec.proofs.Units.{all_more}
use Rattle.rv_exec.specs.Bodies.{all_of, bodies_view, held, shared_view, units_of, with_unit}
use Rattle.rv_exec.specs.declared.bodies.Bodies.{Bodies}
use Rattle.rv_exec.specs.declared.bodies.SharedUnit.{SharedUnit}

views_of : (us : List SharedUnit) → map shared_view us ≡ map unit_view (map held us)
views_of [] = refl
views_of (u ∷ us) = ap (λ (z : List Code.UnitBodies). shared_view u ∷ z) (views_of us)

view_is : (bodies : Bodies) → bodies_view bodies ≡ all_of (map unit_view (units_of bodies))
view_is bodies = ap all_of (views_of bodies.units.items)

views_more : (us : List UnitBodies) (unit : UnitBodies) → map unit_view (us ++ unit ∷ []) ≡ map unit_view us ++ unit_view unit ∷ []
views_more [] unit = refl
views_more (u ∷ us) unit = ap (λ (z : List Code.UnitBodies). unit_view u ∷ z) (views_more us unit)

pub one_more : (bodies more : Bodies) (shared : SharedUnit) (unit : UnitBodies) → held shared ≡ unit → units_of more ≡ units_of bodies ++ held shared ∷ []
    → bodies_view more ≡ with_unit (unit_view unit) (bodies_view bodies)
one_more bodies more shared unit same is =
    view_is more
    ∙ ap (λ (us : List UnitBodies). all_of (map unit_view us)) is
    ∙ ap all_of (views_more (units_of bodies) (held shared))
    ∙ all_more (map unit_view (units_of bodies)) (unit_view (held shared))
    ∙ ap (λ (z : Code.UnitBodies). with_unit z (all_of (map unit_view (units_of bodies)))) (ap unit_view same)
    ∙ ap (λ (z : Code.UnitBodies). with_unit (unit_view unit) z) (sym (view_is bodies))
