-- What a recorded answer says of its request: it fits, the host isn't shut for it, and there is room for the entry.
use Rattle.std.proofs.Common.{◌≡◌, ℕ, ◌∷◌, Some, None, Option, Bool, true, false, true≢false, ap, sym, ◌∙◌, refl}
use Rattle.std.specs.Prelude.{nat_lt, not, ◌&&◌}
use Rattle.rv_event.specs.Recorded.{recorded}
use Rattle.rv_event.specs.Past.{halted}
use Rattle.rv_event.specs.declared.entry.Entry.TheVariants.{Asked}
use Rattle.rv_event.specs.declared.entry.Request.{Request}
use Rattle.rv_event.specs.declared.entry.Recorded.{Recorded}
use Rattle.rv_event.specs.declared.entry.Answer.{Answer}
use Rattle.rv_history.specs.History.{History}
use Rattle.rv_history.specs.Allowance.{may_spend}
use Rattle.rv_history.specs.Owed.{actors, has_room}
use Rattle.rv_history.specs.Fitting.{fits, fits_actor}
use Rattle.rv_history.specs.Due.{out, due, table, gate, goes_on, within, enough}

pub off : false ≡ true → ⊥
off e = true≢false (sym e)

pub both : (a b : Bool) → (a && b) ≡ true → (a ≡ true) × (b ≡ true)
both true b e = (refl, e)
both false b e = absurd (off e)

pub and_none : (b c : Bool) → b ≡ false → (b && c) ≡ false
and_none b c e = ap (λ t. t && c) e

pub and_false : (b : Bool) → (b && false) ≡ false
and_false true = refl
and_false false = refl

pub and_true : (b : Bool) → (b && true) ≡ b
and_true true = refl
and_true false = refl

-- the word that a recorded answer is kept as
word_in : Recorded → Option Recorded → Recorded
word_in v None = v
word_in v (Some w) = w

pub word_is : (v w : Recorded) → (let q : Option Recorded = Some v in q ≡ Some w) → v ≡ w
unfolding word_in
word_is v w e = ap (word_in v) e

pub within_recorded : (enough : Bool) (x : Answer) (w : Recorded) → recorded (within enough x) ≡ Some w → (enough ≡ true) × (recorded x ≡ Some w)
within_recorded true x w e = (refl, e)
within_recorded false x w e = absurd (cc)

pub record Gated (fit shut : Bool) (x : Answer) (w : Recorded) : Type 0 where
  pub fit_in : fit ≡ true
  pub unshut : shut ≡ false
  pub said : recorded x ≡ Some w

pub gate_recorded : (fit shut : Bool) (x : Answer) (w : Recorded) → recorded (gate fit shut x) ≡ Some w → Gated fit shut x w
gate_recorded false shut x w e = absurd (cc)
gate_recorded true true x w e = absurd (cc)
gate_recorded true false x w e = record { fit_in = refl; unshut = refl; said = e }

pub record Answered (h : History) (a : ℕ) (r : Request) (w : Recorded) : Type 0 where
  pub known : nat_lt a (actors h.shapes) ≡ true
  pub fitting : fits h a r ≡ true
  pub fits_in : fits_actor h a r ≡ true
  pub unshut : (halted h.past && not (goes_on r)) ≡ false
  pub said : recorded (table h a r) ≡ Some w
  pub allowed : may_spend h a r ≡ true
  pub paid : has_room h.limits.capacity h.shapes (Asked a r w ∷ h.past) ≡ true

pub answered : (h : History) (a : ℕ) (r : Request) (w : Recorded) → recorded (out h a r) ≡ Some w → Answered h a r w
answered h a r w e =
    let x : Answer = due h a r in
    let in_room = within_recorded (enough h a r (recorded x)) x w e in
    let g = gate_recorded (fits h a r) (halted h.past && not (goes_on r)) (table h a r) w in_room.1 in
    let parts = both (nat_lt a (actors h.shapes)) (fits_actor h a r) g.fit_in in
    let enough_is : (may_spend h a r && has_room h.limits.capacity h.shapes (Asked a r w ∷ h.past)) ≡ true =
    ap (λ (o : Option Recorded). enough h a r o) (sym in_room.1) ∙ in_room.0 in
    let covered = both (may_spend h a r) (has_room h.limits.capacity h.shapes (Asked a r w ∷ h.past)) enough_is in
    record {
      known = parts.0;
      fitting = g.fit_in;
      fits_in = parts.1;
      unshut = g.unshut;
      said = g.said;
      allowed = covered.0;
      paid = covered.1;
    }
