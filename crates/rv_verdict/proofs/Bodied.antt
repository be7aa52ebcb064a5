-- The bodies that come of a text.
use Rattle.std.proofs.Common.{◌≡◌, ℕ, List, Bool, true, false, Some, Result, Ok, Err, inl, inr, refl}
use Rattle.std.specs.Prelude.{IfOk}
use Rattle.rv_shape.specs.Shape.{Shape}
use Rattle.rv_code.specs.Bodies.{UnitBodies, without_bodies}
use Rattle.rv_code.specs.BodyView.{unit_view}
use Rattle.rv_code.specs.declared.body.UnitBodies.{UnitBodies as Bodies}
use Rattle.rv_code.specs.declared.unit.Unit.{Unit as Compiled}
use Rattle.rv_fits.specs.Fits.{numbered_as}
use Rattle.rv_script.specs.UnitTexts.{without_returns}
use Rattle.rv_fault.specs.Sections.{GivesUnit}
use Rattle.rv_verdict.specs.Texts.{HasBodies}

-- those of a text that is a unit there
bodies_own : (text : List ℕ) (behind : List Shape) (shape : Shape) (unit : Compiled) (bodies : UnitBodies) → GivesUnit behind (without_returns text) (Ok unit) →
    (numbered_as shape (unit_view unit.bodies) ≡ true → bodies ≡ unit_view unit.bodies) → (numbered_as shape (unit_view unit.bodies) ≡ false → bodies ≡ without_bodies shape) → HasBodies (Some text) behind shape bodies
bodies_own text behind shape unit bodies gives own none = by_number (numbered_as shape (unit_view unit.bodies)) refl
  where
    by_number : (b : Bool) → numbered_as shape (unit_view unit.bodies) ≡ b → HasBodies (Some text) behind shape bodies
    by_number true e = inl (unit, gives, e, own e)
    by_number false e = inr (inr (unit, gives, e), none e)

-- so it is where a call gives them
pub own_if : {E : Type 0} (text : List ℕ) (behind : List Shape) (shape : Shape) (unit : Compiled) (r : Result Bodies E) → GivesUnit behind (without_returns text) (Ok unit) →
    IfOk r (λ b. numbered_as shape (unit_view unit.bodies) ≡ true → unit_view b ≡ unit_view unit.bodies) → IfOk r (λ b. numbered_as shape (unit_view unit.bodies) ≡ false → unit_view b ≡ without_bodies shape) →
    IfOk r (λ b. HasBodies (Some text) behind shape (unit_view b))
own_if text behind shape unit (Ok b) gives own none = bodies_own text behind shape unit (unit_view b) gives own none
own_if text behind shape unit (Err e) gives own none = tt
