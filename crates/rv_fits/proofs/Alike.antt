-- Objects that share their bodies, and whose entries are alike: the calls of one's bodies fit as those of the other's do.
use Rattle.std.proofs.Common.{◌≡◌, ◌⊎◌, inl, inr, ℕ, zero, suc, ◌+◌, ◌-◌, ◌≤◌, ◌<◌, Bool, true, false, List, [], ◌∷◌, length, map, Option, Some, None, refl, sym, ap, subst, ◌∙◌, arith}
use Rattle.std.proofs.Math.Path.{fun_ext}
use Rattle.std.specs.Prelude.{◌&&◌, if◌then◌else◌, nat_lt, slice_get}
use Rattle.std.proofs.lemmas.Bool.{cases_lt}
use Rattle.std.proofs.lemmas.Bool.Decides.{nat_tests}
use Rattle.std.proofs.lemmas.Option.{slice_get_past}
use Rattle.rv_shape.specs.declared.object.Object.{Object}
use Rattle.rv_shape.specs.declared.object.Object.TheVariants.{Protected, Suspension}
use Rattle.rv_shape.specs.declared.suspension.SuspensionOperation.{SuspensionOperation}
use Rattle.rv_shape.specs.Objects.{OperationShape}
use Rattle.rv_shape.specs.Shape.{Shape}
use Rattle.rv_shape.specs.Catalogue.{UnitObject, numbered, place, target, at_operation, at_suspension, at_object, at_unit_object, suspension_operations, operations_of}
use Rattle.rv_code.specs.BodyView.{list_at}
use Rattle.rv_code.specs.declared.body.ObjectBodies.{ObjectBodies}
use Rattle.rv_code.specs.declared.expression.Callee.{Callee}
use Rattle.rv_code.specs.declared.expression.Callee.TheVariants as callee
use Rattle.rv_fits.specs.Alike.{AreAlike, IsShared, bodies_fit_at, bodies_fit_in, operation_count}
use Rattle.rv_fits.specs.Calls.{object_calls, objects_call, such_in}
use Rattle.rv_fits.specs.Fits.{callee_fits, calls_entry}
use Rattle.rv_fits.proofs.Both.{both_hold}

-- what holds of each number before one, and of it, holds of each before the next
pub one_more : (P : ℕ → Type 0) (n : ℕ) → ((k : ℕ) → k < n → P k) → P n → (k : ℕ) → k < n + 1 → P k
one_more P n before here k lt = by_order (cases_lt k n) where
  by_order : (k < n) ⊎ (n ≤ k) → P k
  by_order (inl less) = before k less
  by_order (inr past) = let same : n ≡ k = omega (arith, lt, past) in subst P same here

never_first : (n : ℕ) → nat_lt (n + 1) 1 ≡ false
never_first n = grind (arith, nat_tests)

-- no operation has a number past them, nor the number 0
numbered_past : {X : Type 0} (xs : List X) (n : ℕ) → length xs ≤ n → numbered xs (n + 1) ≡ None
numbered_past xs n le =
    let back : n + 1 - 1 ≡ n = omega arith in
    ap (λ (t : Bool). if t then None else slice_get xs (n + 1 - 1)) (never_first n) ∙ (ap (slice_get xs) back ∙ slice_get_past xs n le)

no_entry_there : (unit name : List ℕ) (o : Option SuspensionOperation) → calls_entry (at_suspension unit name o) ≡ false
no_entry_there unit name None = refl
no_entry_there unit name (Some operation) = refl

object_past : (unit : List ℕ) (object : Object) (n : ℕ) → length (operations_of object) ≤ n → calls_entry (at_object (n + 1) unit object) ≡ false
object_past unit (Protected object) n le = ap (λ (o : Option OperationShape). calls_entry (at_operation unit object o)) (numbered_past object.operations n le)
object_past unit (Suspension object) n le = no_entry_there unit object.name (numbered suspension_operations (n + 1))

entry_past : (at : Option UnitObject) (n : ℕ) → operation_count at ≤ n → calls_entry (at_unit_object (n + 1) at) ≡ false
entry_past None n le = refl
entry_past (Some at) n le = object_past at.unit at.object n le

object_first : (unit : List ℕ) (object : Object) → calls_entry (at_object 0 unit object) ≡ false
object_first unit (Protected object) = refl
object_first unit (Suspension object) = refl

entry_first : (at : Option UnitObject) → calls_entry (at_unit_object 0 at) ≡ false
entry_first None = refl
entry_first (Some at) = object_first at.unit at.object

pub alike_by_count : (shapes : List Shape) (one other count : ℕ) → count ≡ operation_count (place shapes one) → count ≡ operation_count (place shapes other)
    → ((n : ℕ) → n < count → calls_entry (target shapes one (n + 1)) ≡ calls_entry (target shapes other (n + 1)))
    → AreAlike shapes one other
alike_by_count shapes one other count is same h zero = entry_first (place shapes one) ∙ sym (entry_first (place shapes other))
alike_by_count shapes one other count is same h (suc n) =
    ap (λ (k : ℕ). calls_entry (target shapes one k)) next ∙ (by_order (cases_lt n count) ∙ sym (ap (λ (k : ℕ). calls_entry (target shapes other k)) next)) where
      next : suc n ≡ n + 1
      next = omega arith

      by_order : (n < count) ⊎ (count ≤ n) → calls_entry (target shapes one (n + 1)) ≡ calls_entry (target shapes other (n + 1))
      by_order (inl lt) = h n lt
      by_order (inr le) = entry_past (place shapes one) n (omega (arith, le, is)) ∙ sym (entry_past (place shapes other) n (omega (arith, le, same)))

same_calls : (shapes : List Shape) (one other : ℕ) → AreAlike shapes one other → (c : Callee) → such_in (callee_fits shapes) one c ≡ such_in (callee_fits shapes) other c
same_calls shapes one other alike (callee.OwnEntry n) = alike n
same_calls shapes one other alike c = refl

pub shared_fits : (shapes : List Shape) (first : ℕ) (lists : List ObjectBodies) (objects : List ℕ) (index list at : ℕ)
    → slice_get objects index ≡ Some list → IsShared shapes objects index list first at
    → bodies_fit_at shapes first lists objects at ≡ true → bodies_fit_at shapes first lists objects index ≡ true
shared_fits shapes first lists objects index list at got shared fit =
    let such : such_in (callee_fits shapes) (first + at) ≡ such_in (callee_fits shapes) (first + index) = fun_ext (same_calls shapes (first + at) (first + index) shared.2) in
    ap (bodies_fit_in shapes lists (first + index)) got
    ∙ (sym (ap (λ (p : Callee → Bool). object_calls p (list_at lists list)) such)
    ∙ (sym (ap (bodies_fit_in shapes lists (first + at)) shared.1) ∙ fit))

none_of_both : (b c : Bool) → b ≡ false → (b && c) ≡ false
none_of_both true c e = absurd (cc e)
none_of_both false c e = refl

none_behind : (b c : Bool) → c ≡ false → (b && c) ≡ false
none_behind true c e = e
none_behind false c e = refl

module _ (shapes : List Shape) (lists : List ObjectBodies) where
  here_is : (first list : ℕ) → object_calls (such_in (callee_fits shapes) first) (list_at lists list) ≡ object_calls (such_in (callee_fits shapes) (first + 0)) (list_at lists list)
  here_is first list = let same : first ≡ first + 0 = omega arith in ap (λ (n : ℕ). object_calls (such_in (callee_fits shapes) n) (list_at lists list)) same

  there_is : (first k list : ℕ) (objects : List ℕ) → bodies_fit_at shapes (first + 1) lists objects k ≡ bodies_fit_at shapes first lists (list ∷ objects) (suc k)
  there_is first k list objects = let same : first + 1 + k ≡ first + suc k = omega arith in ap (λ (n : ℕ). bodies_fit_in shapes lists n (slice_get objects k)) same

  pub all_fit_at : (first : ℕ) (objects : List ℕ) → ((k : ℕ) → k < length objects → bodies_fit_at shapes first lists objects k ≡ true)
      → objects_call (callee_fits shapes) first (map (list_at lists) objects) ≡ true
  all_fit_at first [] h = refl
  all_fit_at first (list ∷ objects) h =
      both_hold (object_calls (such_in (callee_fits shapes) first) (list_at lists list)) (objects_call (callee_fits shapes) (first + 1) (map (list_at lists) objects))
      (here_is first list ∙ h 0 (omega arith))
      (all_fit_at (first + 1) objects (λ k lt. there_is first k list objects ∙ h (suc k) (omega (arith, lt))))

  pub one_fails_at : (first : ℕ) (objects : List ℕ) (k : ℕ) → k < length objects → bodies_fit_at shapes first lists objects k ≡ false
      → objects_call (callee_fits shapes) first (map (list_at lists) objects) ≡ false
  one_fails_at first [] k lt e = absurd (omega (arith, lt))
  one_fails_at first (list ∷ objects) zero lt e =
      none_of_both (object_calls (such_in (callee_fits shapes) first) (list_at lists list)) (objects_call (callee_fits shapes) (first + 1) (map (list_at lists) objects))
      (here_is first list ∙ e)
  one_fails_at first (list ∷ objects) (suc k) lt e =
      none_behind (object_calls (such_in (callee_fits shapes) first) (list_at lists list)) (objects_call (callee_fits shapes) (first + 1) (map (list_at lists) objects))
      (one_fails_at (first + 1) objects k (omega (arith, lt)) (there_is first k list objects ∙ e))
