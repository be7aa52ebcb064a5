-- Values go to targets, one after another.
use Rattle.std.proofs.Common.{◌≡◌, refl, sym, ap, ◌∙◌, arith, ℕ, suc, ◌≤◌, ℤ, pos, List, [], ◌∷◌, length, true, false}
use Rattle.std.proofs.lemmas.List.{get_or_past}
use Rattle.std.specs.Prelude.{slice_index_or}
use Rattle.rv_code.specs.declared.statement.Target.{Target}
use Rattle.rv_exec.specs.declared.activation.Activation.{Activation}
use Rattle.rv_exec.specs.declared.end.End.{End}
use Rattle.rv_exec.specs.declared.end.End.TheVariants as ends
use Rattle.rv_exec.specs.Activations.{assigned, copied_back, copied_next}
use Rattle.rv_frames.specs.Rests.{is_next}

next_same : (f g : Activation → End × Activation) (x : End × Activation) → ((b : Activation) → f b ≡ g b) → copied_next f x ≡ copied_next g x
next_same f g (ends.Next, a) same = same a
next_same f g (ends.Exit, a) same = refl
next_same f g (ends.Return v, a) same = refl
next_same f g (ends.Abandoned why, a) same = refl

both_past : (values : List ℤ) (i j : ℕ) → length values ≤ i → length values ≤ j → slice_index_or values i (pos 0) ≡ slice_index_or values j (pos 0)
both_past values i j p q = get_or_past values i (pos 0) p ∙ sym (get_or_past values j (pos 0) q)

pub beyond : (ts : List Target) (i j : ℕ) (values : List ℤ) (a : Activation) → length values ≤ i → length values ≤ j → copied_back ts i values a ≡ copied_back ts j values a
beyond [] i j values a p q = refl
beyond (t ∷ ts) i j values a p q =
    ap (λ (z : ℤ). copied_next (copied_back ts (suc i) values) (assigned t z a)) (both_past values i j p q)
    ∙ next_same (copied_back ts (suc i) values) (copied_back ts (suc j) values) (assigned t (slice_index_or values j (pos 0)) a) (λ b. beyond ts (suc i) (suc j) values b (omega (arith, p)) (omega (arith, q)))

next_goes : (f : Activation → End × Activation) (e : End) (b : Activation) → is_next e ≡ true → copied_next f (e, b) ≡ f b
next_goes f ends.Next b is = refl
next_goes f ends.Exit b is = absurd (cc is)
next_goes f (ends.Return v) b is = absurd (cc is)
next_goes f (ends.Abandoned why) b is = absurd (cc is)

next_stops : (f : Activation → End × Activation) (e : End) (b : Activation) → is_next e ≡ false → copied_next f (e, b) ≡ (e, b)
next_stops f ends.Next b is = absurd (cc is)
next_stops f ends.Exit b is = refl
next_stops f (ends.Return v) b is = refl
next_stops f (ends.Abandoned why) b is = refl

pub copy_on : (ts more : List Target) (t : Target) (i : ℕ) (values : List ℤ) (v : ℤ) (a : Activation) (e : End) (b : Activation)
    → ts ≡ t ∷ more → v ≡ slice_index_or values i (pos 0) → (e, b) ≡ assigned t v a → is_next e ≡ true
    → copied_back ts i values a ≡ copied_back more (suc i) values b
copy_on ts more t i values v a e b is at took next =
    ap (λ (x : List Target). copied_back x i values a) is
    ∙ (ap (λ (z : ℤ). copied_next (copied_back more (suc i) values) (assigned t z a)) (sym at)
    ∙ (ap (λ (x : End × Activation). copied_next (copied_back more (suc i) values) x) (sym took) ∙ next_goes (copied_back more (suc i) values) e b next))

pub copy_stops : (ts more : List Target) (t : Target) (i : ℕ) (values : List ℤ) (v : ℤ) (a : Activation) (e : End) (b : Activation)
    → ts ≡ t ∷ more → v ≡ slice_index_or values i (pos 0) → (e, b) ≡ assigned t v a → is_next e ≡ false
    → copied_back ts i values a ≡ (e, b)
copy_stops ts more t i values v a e b is at took next =
    ap (λ (x : List Target). copied_back x i values a) is
    ∙ (ap (λ (z : ℤ). copied_next (copied_back more (suc i) values) (assigned t z a)) (sym at)
    ∙ (ap (λ (x : End × Activation). copied_next (copied_back more (suc i) values) x) (sym took) ∙ next_stops (copied_back more (suc i) values) e b next))

pub copy_none : (ts : List Target) (i : ℕ) (values : List ℤ) (a : Activation) → ts ≡ [] → copied_back ts i values a ≡ (ends.Next, a)
copy_none ts i values a is = ap (λ (x : List Target). copied_back x i values a) is
