-- Who holds an object exclusively holds it alone.
use Rattle.std.proofs.Common.{◌≡◌, inl, inr, ℕ, ◌≤◌, List, [], ◌∷◌, length, Bool, true, false, cond, arith, sym, ◌∙◌}
use Rattle.std.specs.Prelude.{◌==◌, ◌&&◌, ◌||◌, not}
use Rattle.std.specs.List.{filter, list_any}
use Rattle.rv_shape.specs.Shape.{Shape}
use Rattle.rv_shape.specs.Catalogue.{target, shares}
use Rattle.rv_event.specs.Past.{under_way}
use Rattle.rv_event.specs.declared.entry.Body.{Body}
use Rattle.rv_history.specs.History.{History}
use Rattle.rv_history.specs.Legal.{Legal}
use Rattle.rv_history.specs.Orderly.{is_on, is_exclusive_on, IsShared}
use Rattle.rv_history.proofs.Answered.{off}
use Rattle.rv_history.proofs.Orderly.{legal_orderly_at}

one_at_least : (shapes : List Shape) (o : ℕ) (bs : List Body) → list_any (is_exclusive_on shapes o) bs ≡ true → 1 ≤ length (filter (is_on o) bs)
one_at_least shapes o [] e = absurd (off e)
one_at_least shapes o (b ∷ bs) e = by_test (b.object == o) e (one_at_least shapes o bs)
  where
    by_test : (t : Bool) → ((t && not (shares (target shapes b.object b.operation))) || list_any (is_exclusive_on shapes o) bs) ≡ true →
        (list_any (is_exclusive_on shapes o) bs ≡ true → 1 ≤ length (filter (is_on o) bs)) → 1 ≤ length (cond t (b ∷ filter (is_on o) bs) (filter (is_on o) bs))
    by_test true e rest = omega arith
    by_test false e rest = rest e

alone : (shapes : List Shape) (bs : List Body) (o : ℕ) → IsShared shapes bs o → list_any (is_exclusive_on shapes o) bs ≡ true → length (filter (is_on o) bs) ≡ 1
alone shapes bs o (inl none) e = absurd (off (sym none ∙ e))
alone shapes bs o (inr few) e = omega (arith, few, one_at_least shapes o bs e)

pub exclusive_alone : (h : History) (o : ℕ) → Legal h → list_any (is_exclusive_on h.shapes o) (under_way h.shapes h.past) ≡ true → length (filter (is_on o) (under_way h.shapes h.past)) ≡ 1
exclusive_alone h o l e = alone h.shapes (under_way h.shapes h.past) o ((legal_orderly_at h l).shared o) e
