-- What the tasks of a crew do with their ports. (own)
use Rattle.std.specs.Prelude.{◌≡◌, ℕ, zero, suc, Bool, true, false, []}
use Rattle.rv_event.specs.declared.entry.Request.TheVariants.{Call, Fire}
use Rattle.rv_port.specs.declared.reached.Reached.{Reached}
use Rattle.rv_port.specs.declared.reached.Reached.TheVariants.{Stopped, Misuse}
use Rattle.rv_port.specs.Ports.{Porting, PerformedBy}

-- a device goes on after a call that came to this (own)
abbrev pub goes_on : Reached → Bool
goes_on Stopped = false
goes_on Misuse = false
goes_on reached = true

-- the rest, or nothing more
abbrev pub If : Bool → Type 0 → Type 0 → Type 0
If true more none = more
If false more none = none

-- So many calls of an operation without parameters, one after another; behind one that is stopped or doesn't fit there is
-- none. (own)
abbrev pub Calls : ℕ → ℕ → ℕ → Porting → Porting → Type 0
Calls object operation zero v w = w ≡ v
Calls object operation (suc left) v w =
    (reached : Reached) × (u : Porting) × PerformedBy v (Call object operation []) reached u × If (goes_on reached) (Calls object operation left u w) (w ≡ u)

-- so many interrupts of the port's line, one after another (own)
abbrev pub Fires : ℕ → Porting → Porting → Type 0
Fires zero v w = w ≡ v
Fires (suc count) v w = (reached : Reached) × (u : Porting) × Fires count v u × PerformedBy u Fire reached w
