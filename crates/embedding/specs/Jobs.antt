-- What the jobs of hardware ask. (own)
use Rattle.std.specs.Prelude.{◌≡◌, ℕ, ℤ, zero, suc, true, List, [], ◌∷◌}
use Rattle.rv_turn.specs.Histories.{Each}
use Rattle.rv_event.specs.declared.entry.Request.{Request}
use Rattle.rv_event.specs.declared.entry.Request.TheVariants.{Call}
use Rattle.rv_port.specs.declared.reached.Reached.{Reached}
use Rattle.rv_port.specs.declared.reached.Reached.TheVariants.{Returned}
use Rattle.rv_port.specs.Ports.{Porting, PerformedBy}
use Rattle.rv_crew.specs.Tasks.{goes_on}
use Rattle.embedding.specs.declared.sensor.Wiring.{Wiring}

-- a request is made so often, one time after another (own)
abbrev pub Asks : Request → ℕ → Porting → Porting → Type 0
Asks request zero v w = w ≡ v
Asks request (suc count) v w = (reached : Reached) × (u : Porting) × Asks request count v u × PerformedBy u request reached w

-- One call with a number. Where it returned, a wait until the number is taken. (own)
abbrev pub Sample : Wiring → ℤ → Reached → Porting → Porting → Type 0
Sample wiring number (Returned values) v w = (u : Porting) × (waited : Reached)
    × PerformedBy v (Call wiring.object wiring.operation (number ∷ [])) (Returned values) u × PerformedBy u (Call wiring.taken 4 []) waited w
Sample wiring number reached v w = PerformedBy v (Call wiring.object wiring.operation (number ∷ [])) reached w

-- a number that was sent, and what its call came to
pub record Sampled : Type 0 where
  pub number : ℤ
  pub reached : Reached

-- These numbers were sent one after another, the newest first; behind a call that is stopped or doesn't fit there is none. (own)
abbrev pub Samples : Wiring → List Sampled → Porting → Porting → Type 0
Samples wiring [] v w = w ≡ v
Samples wiring (last ∷ before) v w = (u : Porting) × Samples wiring before v u
    × Each (λ sampled. goes_on sampled.reached ≡ true) before × Sample wiring last.number last.reached u w
