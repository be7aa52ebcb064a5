-- The handler of a line is an operation of a protected object, and handles that line.
use Rattle.std.proofs.Common.{◌≡◌, ℕ, suc, ◌+◌, ◌-◌, List, [], ◌∷◌, Some, None, Option, Bool, true, false, arith, ap, subst, sym, ◌∙◌, refl}
use Rattle.std.specs.Prelude.{slice_get, nat_lt, if◌then◌else◌}
use Rattle.std.proofs.lemmas.Bool.Decides.{nat_tests}
use Rattle.rv_shape.specs.Shape.{Shape}
use Rattle.rv_shape.specs.Objects.{OperationShape}
use Rattle.rv_shape.specs.declared.kind.Kind.{Kind}
use Rattle.rv_shape.specs.declared.kind.Kind.TheVariants.{Function, Procedure, Entry as EntryKind, Handler}
use Rattle.rv_shape.specs.declared.object.Object.{Object}
use Rattle.rv_shape.specs.declared.object.Object.TheVariants.{Protected, Suspension}
use Rattle.rv_shape.specs.Catalogue.{UnitObject, OperationNumber, Site, OnProtected, first_of, numbered, all_objects, place, target, at_unit_object, at_object, at_operation, operations_of, handles, is_entry, handler_in, handler_from, handler}
use Rattle.rv_history.proofs.Answered.{off}

number_in : OperationNumber → Option OperationNumber → OperationNumber
number_in m None = m
number_in m (Some n) = n

some_number : (m n : OperationNumber) → (let q : Option OperationNumber = Some m in q ≡ Some n) → m ≡ n
unfolding number_in
some_number m n e = ap (number_in m) e

-- a handler among these operations, the first of which has this number
record In (line object number : ℕ) (ops : List OperationShape) (n : OperationNumber) : Type 0 where
  skipped : ℕ
  at : n.operation ≡ number + skipped
  operation : OperationShape
  get : slice_get ops skipped ≡ Some operation
  kind : handles line operation.kind ≡ true
  same : n.object ≡ object

in_is : (line object number : ℕ) (ops : List OperationShape) (n : OperationNumber) → handler_in line object number ops ≡ Some n → In line object number ops n
in_is line object number [] n e = absurd (cc)
in_is line object number (p ∷ ops) n e = by_test (handles line p.kind) refl e (in_is line object (number + 1) ops n)
  where
    by_test : (b : Bool) → handles line p.kind ≡ b → (if b then Some (record { object = object; operation = number }) else handler_in line object (number + 1) ops) ≡ Some n →
        (handler_in line object (number + 1) ops ≡ Some n → In line object (number + 1) ops n) → In line object number (p ∷ ops) n
    by_test true is f rest =
        let same = some_number (record { object = object; operation = number }) n f in
        let here : number ≡ n.operation = ap (λ (m : OperationNumber). m.operation) same in
        record { skipped = 0; at = omega (arith, here); operation = p; get = refl; kind = is; same = sym (ap (λ (m : OperationNumber). m.object) same) }
    by_test false is f rest =
        let r = rest f in
        let there : n.operation ≡ number + 1 + r.skipped = r.at in
        record { skipped = suc r.skipped; at = omega (arith, there); operation = r.operation; get = r.get; kind = r.kind; same = r.same }

-- a handler in one of these objects
record From (line number : ℕ) (places : List UnitObject) (n : OperationNumber) : Type 0 where
  skipped : ℕ
  at : n.object ≡ number + skipped
  place : UnitObject
  get : slice_get places skipped ≡ Some place
  inside : In line n.object 1 (operations_of place.object) n

from_is : (line number : ℕ) (places : List UnitObject) (n : OperationNumber) → handler_from line number places ≡ Some n → From line number places n
from_is line number [] n e = absurd (cc)
from_is line number (p ∷ places) n e = by_first (handler_in line number 1 (operations_of p.object)) refl e (from_is line (number + 1) places n)
  where
    by_first : (o : Option OperationNumber) → handler_in line number 1 (operations_of p.object) ≡ o → first_of o (handler_from line (number + 1) places) ≡ Some n →
        (handler_from line (number + 1) places ≡ Some n → From line (number + 1) places n) → From line number (p ∷ places) n
    by_first (Some m) is f rest =
        let found : In line number 1 (operations_of p.object) n = in_is line number 1 (operations_of p.object) n (is ∙ f) in
        let here : n.object ≡ number = found.same in
        record { skipped = 0; at = omega (arith, here); place = p; get = refl; inside = subst (λ k. In line k 1 (operations_of p.object) n) (sym here) found }
    by_first None is f rest =
        let r = rest f in
        let there : n.object ≡ number + 1 + r.skipped = r.at in
        record { skipped = suc r.skipped; at = omega (arith, there); place = r.place; get = r.get; inside = r.inside }

numbered_at : {X : Type 0} (xs : List X) (m k : ℕ) (x : X) → m ≡ 1 + k → slice_get xs k ≡ Some x → numbered xs m ≡ Some x
numbered_at xs m k x e get =
    let some : nat_lt m 1 ≡ false = grind (arith, nat_tests) in
    let less : m - 1 ≡ k = omega (arith, e) in
    (λ i. if some i then None else slice_get xs (less i)) ∙ get

pub record IsHandler (shapes : List Shape) (line : ℕ) (n : OperationNumber) : Type 0 where
  pub site : Site
  pub at : target shapes n.object n.operation ≡ OnProtected site
  pub kind : handles line site.operation.kind ≡ true

at_site : (line : ℕ) (unit : List ℕ) (o : Object) (n : OperationNumber) → In line n.object 1 (operations_of o) n → (site : Site) × (at_object n.operation unit o ≡ OnProtected site) × (handles line site.operation.kind ≡ true)
at_site line unit (Suspension name) n f = let none = f.get in absurd (cc)
at_site line unit (Protected o) n f =
    (record { unit = unit; object = o; operation = f.operation }, ap (at_operation unit o) (numbered_at o.operations n.operation f.skipped f.operation f.at f.get), f.kind)

pub handler_is : (shapes : List Shape) (line : ℕ) (n : OperationNumber) → handler shapes line ≡ Some n → IsHandler shapes line n
handler_is shapes line n e =
    let f = from_is line 1 (all_objects shapes) n e in
    let there : place shapes n.object ≡ Some f.place = numbered_at (all_objects shapes) n.object f.skipped f.place f.at f.get in
    let s = at_site line f.place.unit f.place.object n f.inside in
    record { site = s.0; at = ap (at_unit_object n.operation) there ∙ s.1; kind = s.2 }

-- and no entry
pub handler_enters : (line : ℕ) (kind : Kind) → handles line kind ≡ true → is_entry kind ≡ false
handler_enters line (Function range) e = refl
handler_enters line Procedure e = refl
handler_enters line (EntryKind barrier) e = absurd (off e)
handler_enters line (Handler on) e = refl
