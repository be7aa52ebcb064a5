-- Objects that are put one after another.
use Rattle.std.proofs.Common.{◌≡◌, ◌≢◌, ℕ, ◌+◌, ◌<◌, ◌≤◌, List, [], length, get_or, set, Bool, true, false, arith, ap, subst, sym, ◌∙◌, refl}
use Rattle.std.specs.Prelude.{ℤ, ◌==◌}
use Rattle.std.proofs.lemmas.Bool.Decides.{nat_tests}
use Rattle.std.proofs.lemmas.Grind.{get_or-set_at}
use Rattle.std.proofs.lemmas.List.{get_or-set_other, length-set}
use Rattle.rv_object.specs.Actions.{ObjectView}
use Rattle.rv_shape.specs.Shape.{Shape}
use Rattle.rv_shape.specs.Catalogue.{initial}
use Rattle.rv_history.proofs.Stances.{same_number}
use Rattle.rv_present.specs.Holdings.{idle}
use Rattle.rv_present.specs.Loads.{AreRenewed}

pub renewed_none : (shapes : List Shape) (from upto : ℕ) (xs : List ObjectView) → upto ≡ from → AreRenewed shapes from upto xs xs
renewed_none shapes from upto xs is = record { long = refl; kept = λ o less. refl; past = λ o some. refl; fresh = λ o some less. absurd (omega (arith, some, less, is)) }

pub renewed_upto : (shapes : List Shape) (from upto last : ℕ) (old new : List ObjectView) → upto ≡ last → AreRenewed shapes from upto old new → AreRenewed shapes from last old new
renewed_upto shapes from upto last old new is k = subst (λ n. AreRenewed shapes from n old new) is k

pub renewed_more : (shapes : List Shape) (from n i m : ℕ) (old new : List ObjectView) (starts : List ℤ) → i ≡ n + 1 → m ≡ i → from ≤ n → i < length old → starts ≡ initial shapes i → AreRenewed shapes from n old new →
    AreRenewed shapes from m old (set new i (record { actions = []; unsettled = false; scalars = starts }))
renewed_more shapes from n i m old new starts next last behind inside are k =
    let x : ObjectView = record { actions = []; unsettled = false; scalars = starts } in
    let there : i < length new = omega (arith, inside, k.long) in
    record {
      long = length-set new i x ∙ k.long;
      kept = λ o less. get_or-set_other new i o x idle (λ is. omega (arith, is, less, next, behind)) ∙ k.kept o less;
      past = λ o some. get_or-set_other new i o x idle (λ is. omega (arith, is, some, last)) ∙ k.past o (omega (arith, some, last, next));
      fresh = λ o some less. by_place o some less there (o == i) refl;
    }
  where
    by_place : (o : ℕ) → from < o → o ≤ m → i < length new → (t : Bool) → (o == i) ≡ t → get_or (set new i (record { actions = []; unsettled = false; scalars = starts })) o idle ≡ record { actions = []; unsettled = false; scalars = initial shapes o }
    by_place o some less there true e =
        let same : o ≡ i = same_number o i e in
        get_or-set_at new i o (record { actions = []; unsettled = false; scalars = starts }) idle same there ∙ (λ j. record { actions = []; unsettled = false; scalars = (are ∙ ap (initial shapes) (sym same)) j })
    by_place o some less there false e =
        let other : o ≢ i = grind (arith, nat_tests) in
        get_or-set_other new i o (record { actions = []; unsettled = false; scalars = starts }) idle other ∙ k.fresh o some (omega (arith, less, last, next, other))
