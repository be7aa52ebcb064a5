-- One request for ticks after another.
use Rattle.std.proofs.Common.{◌≡◌, Bool, true, false, ◌∙◌, ◌≤◌, ◌+◌, ◌-◌, ℕ, suc, min, arith, inl, inr, refl, sym, ap, subst, Ok, Err, MatchResult}
use Rattle.std.specs.Prelude.{Result, ℤ, pos}
use Rattle.rv_behind.specs.declared.event.Ask.{Ask}
use Rattle.rv_event.specs.declared.entry.Answer.{Answer}
use Rattle.rv_event.specs.declared.entry.Answer.TheVariants.{Full}
use Rattle.rv_event.specs.declared.entry.Request.TheVariants as asks
use Rattle.rv_pace.specs.Pacing.{Pacing, due, missed}
use Rattle.rv_port.specs.Controls.{Told}
use Rattle.rv_port.specs.Traces.{Passing}
use Rattle.rv_turn.specs.Passes.{IsWorn}
use Rattle.rv_turn.specs.declared.pass.Worn.{Worn as Spent}
use Rattle.rv_attend.specs.Ticking.{AsksInAll, AsksOf, AsksRoom, Ticks, TicksOnce, had_room}

-- a request, as the control takes it
pub asked_of : (ticks : ℕ) (number : ℤ) (v w : Passing) (r : Result Answer Spent) → number ≡ pos ticks
    → MatchResult r (λ a. Told v (Ask.Step (asks.Tick number)) a w) (λ x. IsWorn v w) → AsksOf ticks v w
asked_of ticks number v w (Ok a) is told = inl (a, subst (λ (n : ℤ). Told v (Ask.Step (asks.Tick n)) a w) is told)
asked_of ticks number v w (Err x) is worn = inr worn

-- so many requests were made, and the ticks that are left are those that weren't asked
pub record SoFar (v w : Passing) (old new : Pacing) (now : ℕ) : Type 0 where
  pub count : ℕ
  pub ticks : ℕ
  pub asks : AsksInAll count ticks v w
  pub asked : new ≡ record old { asked = old.asked + ticks }
  pub left : ticks + missed new now ≡ missed old now

rest_of : (all gone ticks : ℕ) → ticks ≡ min 1_000_000 (all - gone) → ticks + (all - (gone + ticks)) ≡ all - gone
rest_of all gone ticks is = omega (arith, is)

most_of : (left ticks : ℕ) → ticks ≡ min 1_000_000 left → ticks ≤ 1_000_000
most_of left ticks is = omega (arith, is)

stepped : (p : Pacing) (now ticks : ℕ) → ticks ≡ min 1_000_000 (missed p now) → ticks + missed (record p { asked = p.asked + ticks }) now ≡ missed p now
stepped p now ticks is = rest_of (due p now) p.asked ticks is

asked_on : (old mid next : Pacing) (ticks more : ℕ) → mid ≡ record old { asked = old.asked + ticks } → next ≡ record mid { asked = mid.asked + more }
    → next ≡ record old { asked = old.asked + (ticks + more) }
asked_on old mid next ticks more first second =
    second ∙ ap (λ (p : Pacing). record p { asked = p.asked + more }) first ∙ ap (λ (n : ℕ). record old { asked = n }) (omega arith)

pub one_further : (v u w : Passing) (old mid next : Pacing) (now more : ℕ) → SoFar v u old mid now → more ≡ min 1_000_000 (missed mid now)
    → next ≡ record mid { asked = mid.asked + more } → (more ≡ 0 → ⊥) → AsksOf more u w → SoFar v w old next now
one_further v u w old mid next now more so_far is second some asks = record {
  count = suc so_far.count;
  ticks = so_far.ticks + more;
  asks = (u, so_far.ticks, more, so_far.asks, asks, omega (arith, some), most_of (missed mid now) more is, refl);
  asked = asked_on old mid next so_far.ticks more so_far.asked second;
  left = subst (λ (p : Pacing). so_far.ticks + more + missed p now ≡ missed old now) (sym second) (omega (arith, so_far.left, stepped mid now more is));
}

none_left : (left ticks : ℕ) → ticks ≡ min 1_000_000 left → ticks ≡ 0 → left ≡ 0
none_left left ticks is none = omega (arith, is, none)

pub whole : (v w : Passing) (old mid next : Pacing) (now more : ℕ) → SoFar v w old mid now → more ≡ min 1_000_000 (missed mid now)
    → next ≡ record mid { asked = mid.asked + more } → more ≡ 0 → Ticks v w old next now
whole v w old mid next now more so_far is second none =
    let all : so_far.ticks ≡ missed old now = omega (arith, so_far.left, none_left (missed mid now) more is none) in
    record {
      count = so_far.count;
      asks = subst (λ (n : ℕ). AsksInAll so_far.count n v w) all so_far.asks;
      asked = asked_on old mid next so_far.ticks more so_far.asked second ∙ ap (λ (n : ℕ). record old { asked = old.asked + n }) (omega (arith, all, none));
    }

-- Where a run lasts

pub room_of : (ticks : ℕ) (number : ℤ) (v w : Passing) (r : Result Answer Spent) → number ≡ pos ticks
    → MatchResult r (λ a. Told v (Ask.Step (asks.Tick number)) a w) (λ x. IsWorn v w) → AsksRoom ticks (had_room r) v w
room_of ticks number v w (Ok Full) is told = subst (λ (n : ℤ). Told v (Ask.Step (asks.Tick n)) Full w) is told
room_of ticks number v w (Ok a) is told = inl (a, subst (λ (n : ℤ). Told v (Ask.Step (asks.Tick n)) a w) is told)
room_of ticks number v w (Err x) is worn = inr worn

none_asked : (old new : Pacing) (ticks : ℕ) → new ≡ record old { asked = old.asked + ticks } → ticks ≡ 0 → new ≡ old
none_asked old new ticks is none = is ∙ ap (λ (n : ℕ). record old { asked = n }) (omega (arith, none))

pub once_none : (v : Passing) (old new : Pacing) (now ticks : ℕ) → ticks ≡ min 1_000_000 (missed old now) → new ≡ record old { asked = old.asked + ticks } → ticks ≡ 0
    → TicksOnce v v old new now
once_none v old new now ticks is second none = inl (none_left (missed old now) ticks is none, refl, none_asked old new ticks second none)

pub once_asked : (v w : Passing) (old new : Pacing) (now ticks : ℕ) (had : Bool) → ticks ≡ min 1_000_000 (missed old now) → new ≡ record old { asked = old.asked + ticks }
    → AsksRoom ticks had v w → had ≡ true → TicksOnce v w old new now
once_asked v w old new now ticks had is second asks some = inr (inl (
  subst (λ (n : ℕ). AsksOf n v w) is (subst (λ (b : Bool). AsksRoom ticks b v w) some asks),
  second ∙ ap (λ (n : ℕ). record old { asked = old.asked + n }) is,
))

given_back : (old mid new : Pacing) (ticks : ℕ) → mid ≡ record old { asked = old.asked + ticks } → new ≡ record mid { asked = mid.asked - ticks } → new ≡ old
given_back old mid new ticks first second =
    second ∙ ap (λ (p : Pacing). record p { asked = p.asked - ticks }) first ∙ ap (λ (n : ℕ). record old { asked = n }) (omega arith)

pub once_full : (v w : Passing) (old mid new : Pacing) (now ticks : ℕ) (had : Bool) → ticks ≡ min 1_000_000 (missed old now) → mid ≡ record old { asked = old.asked + ticks }
    → new ≡ record mid { asked = mid.asked - ticks } → AsksRoom ticks had v w → had ≡ false → TicksOnce v w old new now
once_full v w old mid new now ticks had is first second asks none = inr (inr (
  subst (λ (n : ℕ). AsksRoom n false v w) is (subst (λ (b : Bool). AsksRoom ticks b v w) none asks),
  given_back old mid new ticks first second,
))
