-- An outside that gives recorded answers again, as long as what is asked is what was recorded (own).
use Rattle.std.specs.Prelude.{◌≡◌, ◌⊎◌, ℕ, Bool, true, false, List, [], ◌∷◌, ◌++◌, Option, Some, None}
use Rattle.std.proofs.Common.{sym, subst}
use Rattle.rv_shape.specs.Shape.{Shape}
use Rattle.rv_event.specs.declared.entry.Answer.{Answer}
use Rattle.rv_event.specs.declared.entry.Answer.TheVariants.{Full}
use Rattle.rv_event.specs.declared.entry.Request.{Request}
use Rattle.rv_event.specs.declared.entry.Request.TheVariants.{Call, Complete}
use Rattle.rv_exec.specs.Asking.{Trace, stands}
use Rattle.rv_ends.specs.Explained.{is_unasked, unasked, held_after, is_stopped_end}
use Rattle.rv_ends.specs.declared.following.Following.{Following}

-- the units, what was recorded and isn't asked yet, how many objects are held, the first ask that wasn't the one recorded, and
-- whether something else than the ends behind a stop came after it
pub record Place : Type 0 where
  pub shapes : List Shape
  pub asked : Trace
  pub held : ℕ
  pub other : Option Request
  pub is_broken : Bool

abbrev pub place_of : Following → Place
place_of f = record { shapes = f.catalogue.now; asked = f.asked.now; held = f.held; other = f.other; is_broken = f.is_broken }

-- behind another ask than the one recorded, by the first such ask
abbrev pub missed_by : Option Request → Place → Request → Place
missed_by None p request = record p { other = Some request }
missed_by (Some other) p request = record p { is_broken = true }

abbrev pub missed : Place → Request → Place
missed p request = missed_by p.other p request

-- behind the next answer that was recorded
abbrev pub gone_on : Place → Trace → Answer → Place
gone_on p rest answer = record p { asked = rest; held = held_after p.held answer }

-- behind a stop only ends by stopped follow
abbrev pub may_follow : Option Request → Request → Bool
may_follow None request = true
may_follow (Some other) request = is_stopped_end request

-- a call that isn't asked
abbrev pub IsPassed : Place → Request × Answer → Place → Type 0
IsPassed p pair q = (p.other ≡ None) × (is_unasked p.shapes p.held pair.0 ≡ true) × (pair.1 ≡ unasked) × (q ≡ p)

-- the ask that was recorded next
abbrev pub IsRecorded : Place → Request × Answer → Place → Type 0
IsRecorded p pair q =
    (p.other ≡ None → is_unasked p.shapes p.held pair.0 ≡ false) × (may_follow p.other pair.0 ≡ true)
    × (rest : Trace) × (p.asked ≡ pair ∷ rest) × (q ≡ gone_on p rest pair.1)

-- an ask that isn't the one recorded next, or that may not follow
abbrev pub IsOther : Place → Request → Type 0
IsOther p request =
    (answer : Answer) (rest : Trace) → p.asked ≡ (request, answer) ∷ rest → (stands answer ≡ true) ⊎ (may_follow p.other request ≡ false)

-- another ask
abbrev pub IsMissed : Place → Request × Answer → Place → Type 0
IsMissed p pair q =
    (pair.1 ≡ Full) × (p.other ≡ None → is_unasked p.shapes p.held pair.0 ≡ false) × IsOther p pair.0 × (q ≡ missed p pair.0)

abbrev pub Goes : Place → Request × Answer → Place → Type 0
Goes p pair q = IsPassed p pair q ⊎ (IsRecorded p pair q ⊎ IsMissed p pair q)

-- a trace that goes from one place to another
abbrev pub Plays : Place → Trace → Place → Type 0
Plays p [] q = p ≡ q
Plays p (pair ∷ trace) q = (m : Place) × Goes p pair m × Plays m trace q

-- a request that carries no object
abbrev pub is_plain : Request → Bool
is_plain (Call object operation values) = false
is_plain (Complete components exit) = false
is_plain request = true

pub plays_both : (s t u : Place) (a b : Trace) → Plays s a t → Plays t b u → Plays s (a ++ b) u
plays_both s t u [] b h g = subst (λ x. Plays x b u) (sym h) g
plays_both s t u (p ∷ a) b h g = (h.0, h.1, plays_both h.0 t u a b h.2 g)
