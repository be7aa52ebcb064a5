-- What a request comes to that a task asks.
use Rattle.std.proofs.Common.{◌≡◌, ℕ, List, refl, sym, subst}
use Rattle.std.specs.Prelude.{ℤ}
use Rattle.rv_event.specs.declared.entry.Request.{Request}
use Rattle.rv_event.specs.declared.entry.Request.TheVariants.{Call, DelayUntil, Clock}
use Rattle.rv_port.specs.declared.reached.Reached.{Reached}
use Rattle.rv_port.specs.Ports.{Porting, PerformedBy}
use Rattle.rv_actor.specs.Outcomes.{DoesAsked}
use Rattle.rv_actor.specs.declared.outcome.Outcome.TheVariants as Outcomes

pub called : (request : Request) (object operation : ℕ) (values : List ℤ) (reached : Reached) (v w : Porting) → request ≡ Call object operation values
    → PerformedBy v (Call object operation values) reached w → DoesAsked request v (Outcomes.Reached reached) w
called request object operation values reached v w is performed =
    subst (λ (q : Request). DoesAsked q v (Outcomes.Reached reached) w) (sym is) (reached, performed, refl)

pub delayed : (request : Request) (time asked : ℤ) (reached : Reached) (v w : Porting) → request ≡ DelayUntil time → asked ≡ time
    → PerformedBy v (DelayUntil asked) reached w → DoesAsked request v (Outcomes.Reached reached) w
delayed request time asked reached v w is same performed =
    subst (λ (q : Request). DoesAsked q v (Outcomes.Reached reached) w) (sym is)
    (reached, subst (λ (z : ℤ). PerformedBy v (DelayUntil z) reached w) same performed, refl)

pub clock_read : (request : Request) (reached : Reached) (v w : Porting) → request ≡ Clock → PerformedBy v Clock reached w
    → DoesAsked request v (Outcomes.Reached reached) w
clock_read request reached v w is performed = subst (λ (q : Request). DoesAsked q v (Outcomes.Reached reached) w) (sym is) (reached, performed, refl)
