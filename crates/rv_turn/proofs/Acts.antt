-- What one act leaves, put together from its steps.
use Rattle.std.proofs.Common.{◌≡◌, ℕ, zero, suc, ◌+◌, ◌-◌, ◌<◌, ◌≤◌, Bool, true, false, List, [], ◌∷◌, ◌++◌, length, Option, Some, None, sym, refl, ap, ◌∙◌, subst, inl, inr, arith, append_assoc}
use Rattle.rv_turn.specs.declared.view.View.{View}
use Rattle.rv_turn.specs.Histories.{mine, StartsWith}
use Rattle.rv_turn.proofs.KeptBySteps.{mine_more, starts}
use Rattle.atomic_table.specs.Table.{Me, Final, Seen, opening}
use Rattle.atomic_table.specs.Seated.{TableId}
use Rattle.rv_turn.specs.Views.{queued, turned, grown, served, opening_view, spare}
use Rattle.rv_turn.specs.Acts.{ActedAt, Holds, Releases}
use Rattle.rv_turn.specs.Passes.{Acted, known_of}
use Rattle.rv_turn.specs.Rules.{Kept, TookTurn, acts_left}
use mathlib.Core.Option.{some, some-injective, some-ne-none}
use lib.ListN.{get_elem?}

module _ {E A Q R : Type 0} (by : E → ℕ) (answers : A → List E → ℕ → Q → R → List E → Type 0) where
  -- an act of the value that adds no entry
  pub acted_none : (turn : TableId) (v w : View E A) (q : Q) (r : R) (t : ℕ) (x : A) (at after : List E) → StartsWith at v.seen → mine by v.actor at ≡ v.base ++ v.own → 0 < v.acts → v.about ≡ Some x → answers x at v.actor q r after → after ≡ at
      → w ≡ served (turned (queued v t) at) → ActedAt by answers turn v q r w
  acted_none turn v w q r t x at after later owns some_acts fixed answer same is = subst (λ (z : View E A). ActedAt by answers turn v q r z) (sym is) record {
    at = at;
    later = later;
    owned = owns;
    about = x;
    about_is = fixed;
    answer = subst (λ (l : List E). answers x at v.actor q r l) same answer;
    entry = inl (refl, refl);
    owns = owns;
    some_left = some_acts;
    same = refl;
  }

  -- an act of the value that adds one entry
  pub acted_one : (turn : TableId) (v w : View E A) (q : Q) (r : R) (t : ℕ) (x : A) (at after : List E) (e : E) → StartsWith at v.seen → mine by v.actor at ≡ v.base ++ v.own → 0 < v.acts → v.about ≡ Some x → answers x at v.actor q r after
      → after ≡ at ++ e ∷ [] → by e ≡ v.actor → w ≡ served (grown (turned (queued v t) at) after e) → ActedAt by answers turn v q r w
  acted_one turn v w q r t x at after e later owns some_acts fixed answer more mine_is is = subst (λ (z : View E A). ActedAt by answers turn v q r z) (sym is) record {
    at = at;
    later = later;
    owned = owns;
    about = x;
    about_is = fixed;
    answer = answer;
    entry = inr (e, mine_is, more, refl);
    owns = ap (mine by v.actor) more ∙ (mine_more by v.actor at e mine_is ∙ (ap (λ (l : List E). l ++ e ∷ []) owns ∙ append_assoc v.base v.own (e ∷ [])));
    some_left = some_acts;
    same = refl;
  }

  -- what a pass shows of an act of its seat
  pub acted_known : (turn turn' : TableId) (v w : View E A) (n : ℕ) (q : Q) (r : R) → turn' ≡ turn → 0 < n → ActedAt by answers turn v q r w → Acted by answers (known_of turn v n) q r (known_of turn' w (n - 1))
  acted_known turn turn' v w n q r here some_left a = record {
    at = a.at;
    later = a.later;
    owned = a.owned;
    about = a.about;
    about_is = a.about_is;
    answer = a.answer;
    entry = a.entry;
    owns = a.owns;
    some_left = some_left;
    same = λ i. record (a.same i) { turn = here i; left = n - 1 };
  }

abbrev pick : {C : Type 0} → C → List (ℕ × Option C) → C
pick d [] = d
pick d ((k, None) ∷ l) = d
pick d ((k, Some x) ∷ l) = x

-- two ways to say what one seat holds
pub held_same : {C : Type 0} (a b : C) (l : List (ℕ × Option C)) → l ≡ (0, Some a) ∷ [] → l ≡ (0, Some b) ∷ [] → a ≡ b
held_same a b l p q = ap (pick a) (sym p ∙ q)

module _ {C E A : Type 0} (history : C → List E) (about : C → A) (by : E → ℕ) where
  -- a ticket, then the turn, then the value
  pub holds_now : (m m₀ m₁ m₂ : Me (Option C) (View E A)) (t : ℕ) (x : C) → m.1 ≡ [] → m₀ ≡ (queued m.0 t, m.1) → TookTurn history about by m₀ m₁ → m₁.1 ≡ (0, Some x) ∷ [] → m₂ ≡ (m₁.0, (0, None) ∷ []) → m.0.passes ≡ true → Holds history about by m.0 x m₂
  holds_now m m₀ m₁ m₂ t x none q turn value out passes =
      let turn' : TookTurn history about by (queued m.0 t, []) m₁ = subst (λ (z : Me (Option C) (View E A)). TookTurn history about by z m₁) (q ∙ ap (λ (l : List (ℕ × Option C)). (queued m.0 t, l)) none) turn in
      go turn'.0 (held_same turn'.0 x m₁.1 (ap (λ (z : Me (Option C) (View E A)). z.1) turn'.1) value) turn'.1 turn'.2 turn'.3 (turn'.4 passes) (turn'.5 passes) where
        go : (y : C) → y ≡ x → m₁ ≡ (turned (queued m.0 t) (history y), (0, Some y) ∷ []) → StartsWith (history y) m.0.seen → StartsWith (history y) m.0.told → mine by m.0.actor (history y) ≡ m.0.base ++ m.0.own → m.0.about ≡ Some (about y) → Holds history about by m.0 x m₂
        go y is me later told owns fixed = (
          t,
          out ∙ (ap (λ (z : Me (Option C) (View E A)). (z.0, (0, None) ∷ [])) me ∙ ap (λ (z : C). (turned (queued m.0 t) (history z), (0, None) ∷ [])) is),
          subst (λ (z : C). StartsWith (history z) m.0.seen) is later,
          subst (λ (z : C). StartsWith (history z) m.0.told) is told,
          subst (λ (z : C). mine by m.0.actor (history z) ≡ m.0.base ++ m.0.own) is owns,
          subst (λ (z : C). m.0.about ≡ Some (about z)) is fixed,
        )

acts_le : {E A : Type 0} (l : List (View E A)) (i : ℕ) (v : View E A) → get_elem? l i ≡ some v → v.acts ≤ acts_left l
acts_le [] i v e = absurd (some-ne-none v (sym e))
acts_le (x ∷ xs) zero v e = omega (arith, ap (λ (z : View _ _). z.acts) (some-injective x v e))
acts_le (x ∷ xs) (suc i) v e = omega (arith, acts_le xs i v e)

module _ {C E A Q R : Type 0} (history : C → List E) (about : C → A) (by : E → ℕ) (answers : A → List E → ℕ → Q → R → List E → Type 0) where
  acted_as : (turn : TableId) (v : View E A) (q : Q) (r : R) (t : ℕ) (x : A) (at after : List E) (more : Bool) (m : Me (Option C) (View E A)) → StartsWith at v.seen → mine by v.actor at ≡ v.base ++ v.own → 0 < v.acts → v.about ≡ Some x
      → answers x at v.actor q r after → Releases by (turned (queued v t) at) after more m → ActedAt by answers turn v q r m.0
  acted_as turn v q r t x at after true m later owns some_acts fixed answer z = acted_one by answers turn v m.0 q r t x at after z.0 later owns some_acts fixed answer z.1 z.2 (ap (λ (z : Me (Option C) (View E A)). z.0) z.3)
  acted_as turn v q r t x at after false m later owns some_acts fixed answer z = acted_none by answers turn v m.0 q r t x at after later owns some_acts fixed answer z.0 (ap (λ (z : Me (Option C) (View E A)). z.0) z.1)

  -- the turn, the act, and the release
  pub acted_now : (turn : TableId) (v : View E A) (x y : C) (q : Q) (r : R) (more : Bool) (m n : Me (Option C) (View E A)) → Holds history about by v x m → Releases by m.0 (history y) more n → answers (about x) (history x) v.actor q r (history y) → 0 < v.acts → ActedAt by answers turn v q r n.0
  acted_now turn v x y q r more m n h rel answer some_acts =
      acted_as turn v q r h.0 (about x) (history x) (history y) more n h.2 h.4 some_acts h.5 answer (subst (λ (z : Me (Option C) (View E A)). Releases by z.0 (history y) more n) h.1 rel)

module _ {C E A : Type 0} (history : C → List E) (about : C → A) (by : E → ℕ) (made : C) where
  pub starts_at : (n : ℕ) (l : List (Option C)) → n ≡ length (history made) → l ≡ Some made ∷ [] → n < 18446744073709551616 → ((a : ℕ) → 0 < a → mine by a (history made) ≡ [])
      → Kept history about by made (opening (n ∷ 0 ∷ 0 ∷ []) l (opening_view by (about made) (history made)))
  starts_at n l is one small alone = subst (λ (z : ℕ × List (Option C)). Kept history about by made (opening (z.0 ∷ 0 ∷ 0 ∷ []) z.1 (opening_view by (about made) (history made)))) (λ i. (sym is i, sym one i)) (starts history about by made (omega arith) alone)

  -- where every act is left, the value is the one that was put there
  pub closes_fresh : (id : ℕ) (v : View E A) (ws : List ℕ) (xs : List (Option C)) → v.acts ≡ 4611686018427387905 → Final (Seen (Kept history about by made) id v) ws xs → get_elem? xs 0 ≡ some (Some made)
  closes_fresh id v ws xs all f = let k = f.1.0 in let few = k.few in let mine_few = acts_le f.0.views id v f.1.1 in f.4 0 (Some made) (k.fresh (omega arith))
