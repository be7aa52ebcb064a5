-- What stands of the passes that came back.
use Rattle.std.proofs.Common.{◌≡◌, ℕ, true, List, [], ◌∷◌, ◌++◌, map, Option, Some, subst, refl, sym, ap, ◌∙◌}
use Rattle.atomic_table.specs.Table.{Me}
use Rattle.atomic_table.specs.Seated.{TableId}
use Rattle.rv_turn.specs.declared.view.View.{View}
use Rattle.rv_turn.specs.Histories.{Each}
use Rattle.rv_turn.specs.Views.{turned, queued}
use Rattle.rv_turn.specs.Acts.{Holds}
use Rattle.rv_turn.specs.Rules.{Stands, Met}
use Rattle.rv_turn.specs.Passes.{Known, known_of, kept_of, StandsIn}
use Rattle.rv_turn.proofs.KeptBySteps.{each_map, some_same}

each_front : {A B : Type 0} (f : A → B) (Q : B → Type 0) (xs : List A) (ys : List B) → Each Q (map f xs ++ ys) → Each (λ x. Q (f x)) xs
each_front f Q [] ys e = tt
each_front f Q (x ∷ xs) ys e = (e.0, each_front f Q xs ys e.1)

-- what holds of all that is kept holds of those that were taken in
pub each_given : {A B : Type 0} (f : A → B) (Q : B → Type 0) (xs : List A) (ys zs : List B) → zs ≡ map f xs ++ ys → Each Q zs → Each (λ x. Q (f x)) xs
each_given f Q xs ys zs is e = each_front f Q xs ys (subst (λ l. Each Q l) is e)

module _ {C E A : Type 0} (history : C → List E) (about : C → A) (by : E → ℕ) where
  -- the first pass in the value that it took out
  pub closed_first : (turn : TableId) (v : View E A) (n : ℕ) (p : Known E A) (x : C) (m : Me (Option C) (View E A)) → known_of turn v n ≡ p → Holds history about by v x m → StandsIn by (history x) p
  closed_first turn v n p x m is h = subst (StandsIn by (history x)) is (h.2, h.4)

  -- the passes that it took in then
  all_stand : (turn : TableId) (v : View E A) (n : ℕ) (p : Known E A) (others : List (Known E A)) (x : C) (m k w : Me (Option C) (View E A)) → known_of turn v n ≡ p → p.first ≡ true
      → Holds history about by v x m → k.0 ≡ record m.0 { kept = map kept_of others ++ m.0.kept } → Met history about by k w → Each (λ (o : Known E A). Stands by (about x) (history x) (kept_of o)) others
  all_stand turn v n p others x m k w is first h took looked =
      let held : k.0 ≡ record (turned (queued v h.0) (history x)) { kept = map kept_of others ++ v.kept } = took ∙ ap (λ (z : Me (Option C) (View E A)). record z.0 { kept = map kept_of others ++ z.0.kept }) h.1 in
      let met : Met history about by (record (turned (queued v h.0) (history x)) { kept = map kept_of others ++ v.kept }, k.1) w = subst (λ (z : View E A). Met history about by (z, k.1) w) held looked in
      let was_first : v.first ≡ true = ap (λ (q : Known E A). q.first) is ∙ first in
      let stand = met.6 was_first in
      let same : stand.0 ≡ about x = some_same stand.0 (about x) (sym stand.1 ∙ h.5) in
      each_given kept_of (Stands by (about x) (history x)) others v.kept (map kept_of others ++ v.kept) refl
      (subst (λ (z : A × List E). Each (Stands by z.0 z.1) (map kept_of others ++ v.kept)) (λ i. (same i, met.5 refl i)) stand.2)

  pub closed_others : (turn : TableId) (v : View E A) (n : ℕ) (p : Known E A) (others : List (Known E A)) (x : C) (m k w : Me (Option C) (View E A)) → known_of turn v n ≡ p → p.first ≡ true
      → Holds history about by v x m → k.0 ≡ record m.0 { kept = map kept_of others ++ m.0.kept } → Met history about by k w → Each (StandsIn by (history x)) others
  closed_others turn v n p others x m k w is first h took looked = each_map others (λ o s. (s.0, s.1)) (all_stand turn v n p others x m k w is first h took looked)

  -- and what they knew that no act changes
  pub closed_about : (turn : TableId) (v : View E A) (n : ℕ) (p : Known E A) (others : List (Known E A)) (x : C) (m k w : Me (Option C) (View E A)) → known_of turn v n ≡ p → p.first ≡ true
      → Holds history about by v x m → k.0 ≡ record m.0 { kept = map kept_of others ++ m.0.kept } → Met history about by k w → Each (λ (o : Known E A). o.about ≡ Some (about x)) others
  closed_about turn v n p others x m k w is first h took looked = each_map others (λ o s. s.2) (all_stand turn v n p others x m k w is first h took looked)
