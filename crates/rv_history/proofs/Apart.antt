-- Bodies that are under way, and those that left their objects unsettled.
use Rattle.std.proofs.Common.{◌≡◌, ◌⊎◌, inl, inr, ℕ, ◌≤◌, List, [], ◌∷◌, length, Some, None, Option, Bool, true, false, cond, arith, ap, subst, sym, ◌∙◌, refl}
use Rattle.std.specs.Prelude.{slice_get, ◌||◌, ◌==◌}
use Rattle.std.specs.List.{filter, list_any}
use Rattle.rv_event.specs.Past.{begun, without}
use Rattle.rv_event.specs.declared.entry.Body.{Body}
use Rattle.rv_event.proofs.Matching.{by}
use Rattle.rv_history.specs.Orderly.{is_on}
use Rattle.rv_history.proofs.Bodies.{any_less, at_most_one, count_less, none_on, one_less}
use Rattle.rv_history.proofs.Stances.{itself, same_number}

-- no body left the object unsettled; or one did, and nobody holds it
abbrev pub IsApart : List Body → List Body → ℕ → Type 0
IsApart bodies left o = (list_any (is_on o) left ≡ false) ⊎ ((list_any (is_on o) bodies ≡ false) × (length (filter (is_on o) left) ≤ 1))

pub none_any : (p : Body → Bool) (bs : List Body) → length (filter p bs) ≡ 0 → list_any p bs ≡ false
none_any p [] e = refl
none_any p (b ∷ bs) e = by_test (p b) refl e (none_any p bs)
  where
    by_test : (t : Bool) → p b ≡ t → length (cond t (b ∷ filter p bs) (filter p bs)) ≡ 0 → (length (filter p bs) ≡ 0 → list_any p bs ≡ false) → (p b || list_any p bs) ≡ false
    by_test true is f rest = absurd (omega (arith, f))
    by_test false is f rest = ap (λ t. t || list_any p bs) is ∙ rest f

-- one more body, on a settled object
pub apart_start : (b : Body) (bodies left : List Body) (o : ℕ) → list_any (is_on b.object) left ≡ false → IsApart bodies left o → IsApart (b ∷ bodies) left o
apart_start b bodies left o none was = by_test (b.object == o) refl was
  where
    by_test : (t : Bool) → (b.object == o) ≡ t → IsApart bodies left o → IsApart (b ∷ bodies) left o
    by_test true is k = inl (subst (λ n. list_any (is_on n) left ≡ false) (same_number b.object o is) none)
    by_test false is (inl e) = inl e
    by_test false is (inr k) = inr (ap (λ t. t || list_any (is_on o) bodies) is ∙ k.0, k.1)

pub apart_begun : (q : Option Body) (bodies left : List Body) (o : ℕ) → ((b : Body) → q ≡ Some b → list_any (is_on b.object) left ≡ false) → IsApart bodies left o → IsApart (begun q bodies) left o
apart_begun None bodies left o none was = was
apart_begun (Some b) bodies left o none was = apart_start b bodies left o (none b refl) was

-- one fewer
pub apart_end : (a : ℕ) (bodies left : List Body) (o : ℕ) → IsApart bodies left o → IsApart (without a bodies) left o
apart_end a bodies left o (inl e) = inl e
apart_end a bodies left o (inr k) = inr (any_less (is_on o) a bodies k.0, k.1)

-- one that leaves its object unsettled, which nobody holds
apart_one : (b : Body) (bodies left : List Body) (o : ℕ) → list_any (is_on b.object) bodies ≡ false → list_any (is_on b.object) left ≡ false → IsApart bodies left o → IsApart bodies (b ∷ left) o
apart_one b bodies left o free none was = by_test (b.object == o) refl was
  where
    by_test : (t : Bool) → (b.object == o) ≡ t → IsApart bodies left o → IsApart bodies (b ∷ left) o
    by_test true is k =
        let same : b.object ≡ o = same_number b.object o is in
        let zero : length (filter (is_on o) left) ≡ 0 = none_on (is_on o) left (subst (λ n. list_any (is_on n) left ≡ false) same none) in
        inr (subst (λ n. list_any (is_on n) bodies ≡ false) same free, at_most_one (is_on o) b left zero)
    by_test false is (inl e) = inl (ap (λ t. t || list_any (is_on o) left) is ∙ e)
    by_test false is (inr k) = inr (k.0, subst (λ t. length (cond t (b ∷ filter (is_on o) left) (filter (is_on o) left)) ≤ 1) (sym is) k.1)

pub apart_left : (q : Option Body) (bodies left : List Body) (o : ℕ) → ((b : Body) → q ≡ Some b → (list_any (is_on b.object) bodies ≡ false) × (list_any (is_on b.object) left ≡ false)) →
    IsApart bodies left o → IsApart bodies (begun q left) o
apart_left None bodies left o none was = was
apart_left (Some b) bodies left o none was = let k = none b refl in apart_one b bodies left o k.0 k.1 was

pub apart_settle : (a : ℕ) (bodies left : List Body) (o : ℕ) → IsApart bodies left o → IsApart bodies (without a left) o
apart_settle a bodies left o (inl e) = inl (any_less (is_on o) a left e)
apart_settle a bodies left o (inr k) = inr (k.0, omega (arith, count_less (is_on o) a left, k.1))

-- nobody holds the object of a body that left it unsettled, and no other body did
pub left_alone : (a : ℕ) (b : Body) (bodies left : List Body) → slice_get (filter (by a) left) 0 ≡ Some b → IsApart bodies left b.object →
    (list_any (is_on b.object) bodies ≡ false) × (list_any (is_on b.object) (without a left) ≡ false)
left_alone a b bodies left is (inl none) = absurd (omega (arith, one_less (is_on b.object) a b left is (itself b.object), none_on (is_on b.object) left none))
left_alone a b bodies left is (inr k) =
    let few = k.1 in
    let zero : length (filter (is_on b.object) (without a left)) ≡ 0 = omega (arith, one_less (is_on b.object) a b left is (itself b.object), few) in
    (k.0, none_any (is_on b.object) (without a left) zero)

-- the object of a body that is under way is settled
pub held_settled : (a : ℕ) (b : Body) (bodies left : List Body) → slice_get (filter (by a) bodies) 0 ≡ Some b → IsApart bodies left b.object → list_any (is_on b.object) left ≡ false
held_settled a b bodies left is (inl none) = none
held_settled a b bodies left is (inr k) = absurd (omega (arith, one_less (is_on b.object) a b bodies is (itself b.object), none_on (is_on b.object) bodies k.0))
