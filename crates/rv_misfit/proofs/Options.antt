-- What it says of a choice that it comes to a value, or to none.
use Rattle.std.proofs.Common.{◌≡◌, Bool, true, false, Some, None, Option, refl}
use Rattle.std.specs.Prelude.{if◌then◌else◌}
use Rattle.rv_shape.specs.Items.{◌>>=◌}

pub same : {X : Type 0} (x y : X) → Some x ≡ Some y → x ≡ y
same x y e = cc

pub never : {X : Type 0} {Y : Type 0} (y : Y) → None ≡ Some y → X
never y e = absurd cc

pub bind : {X Y : Type 0} (o : Option X) (f : X → Option Y) (y : Y) → (o >>= f) ≡ Some y → (x : X) × (o ≡ Some x) × (f x ≡ Some y)
bind None f y e = never y e
bind (Some x) f y e = (x, refl, e)

-- what is told unless something holds
pub told : {X : Type 0} (b : Bool) (x y : X) → (if b then None else Some x) ≡ Some y → b ≡ false
told true x y e = never y e
told false x y e = refl

-- and what isn't
pub untold : {X : Type 0} (b : Bool) (x : X) → (if b then None else Some x) ≡ None → b ≡ true
untold true x e = refl
untold false x e = absurd cc
