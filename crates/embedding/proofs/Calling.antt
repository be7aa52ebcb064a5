-- One call more behind others, and the samples that calls make.
use Rattle.std.proofs.Common.{◌≡◌, ◌∷◌, [], ℕ, suc, List, refl, sym, subst}
use Rattle.std.specs.Prelude.{ℤ}
use Rattle.rv_event.specs.declared.entry.Request.TheVariants.{Call}
use Rattle.rv_port.specs.declared.reached.Reached.{Reached}
use Rattle.rv_port.specs.declared.reached.Reached.TheVariants.{Returned, Raised, Refused, Stopped, Misuse}
use Rattle.rv_port.specs.Ports.{Porting, PerformedBy}
use Rattle.embedding.specs.Jobs.{Asks, Sample}
use Rattle.embedding.specs.declared.sensor.Wiring.{Wiring}

-- a call without values behind others
pub asked_more : (object operation count : ℕ) (values : List ℤ) (reached : Reached) (v u w : Porting) → values ≡ [] → Asks (Call object operation []) count v u → PerformedBy u (Call object operation values) reached w → Asks (Call object operation []) (suc count) v w
asked_more object operation count values reached v u w none before p =
    (reached, u, before, subst (λ (z : List ℤ). PerformedBy u (Call object operation z) reached w) none p)

-- a call that returned, and the wait behind it
pub waited_for : (wiring : Wiring) (number : ℤ) (sent values : List ℤ) (reached waited : Reached) (v u w : Porting) → sent ≡ number ∷ [] → reached ≡ Returned values → PerformedBy v (Call wiring.object wiring.operation sent) reached u → PerformedBy u (Call wiring.taken 4 []) waited w → Sample wiring number reached v w
waited_for wiring number sent values reached waited v u w one is p q =
    subst (λ (r : Reached). Sample wiring number r v w) (sym is) (u, waited, called, q) where
      called : PerformedBy v (Call wiring.object wiring.operation (number ∷ [])) (Returned values) u
      called = subst (λ (z : List ℤ). PerformedBy v (Call wiring.object wiring.operation z) (Returned values) u) one (subst (λ (r : Reached). PerformedBy v (Call wiring.object wiring.operation sent) r u) is p)

-- a call that returned nothing
pub alone : (wiring : Wiring) (number : ℤ) (sent : List ℤ) (reached : Reached) (v w : Porting) → sent ≡ number ∷ [] → ((values : List ℤ) → reached ≡ Returned values → ⊥) → PerformedBy v (Call wiring.object wiring.operation sent) reached w → Sample wiring number reached v w
alone wiring number sent (Returned values) v w one not p = absurd (not values refl)
alone wiring number sent (Raised exception) v w one not p = subst (λ (z : List ℤ). PerformedBy v (Call wiring.object wiring.operation z) (Raised exception) w) one p
alone wiring number sent (Refused rule line version) v w one not p = subst (λ (z : List ℤ). PerformedBy v (Call wiring.object wiring.operation z) (Refused rule line version) w) one p
alone wiring number sent Stopped v w one not p = subst (λ (z : List ℤ). PerformedBy v (Call wiring.object wiring.operation z) Stopped w) one p
alone wiring number sent Misuse v w one not p = subst (λ (z : List ℤ). PerformedBy v (Call wiring.object wiring.operation z) Misuse w) one p
