-- A suspension object (D.10).
use Rattle.std.specs.Prelude.{◌≡◌, ℕ, Bool, false, Option, Some, None}

-- whether it is True, the actor that waits until it is, and the actor that was released and not collected since
pub record Suspension : Type 0 where
  pub state : Bool
  pub waiter : Option ℕ
  pub released : Option ℕ

-- at first it is False, and nobody waits
abbrev pub initially : Suspension
initially = record { state = false; waiter = None; released = None }

-- who waits is held back by an object that is False
abbrev pub IsHeldBack : Bool → Option ℕ → Type 0
IsHeldBack state None = Unit {0}
IsHeldBack state (Some actor) = state ≡ false
