-- Lists of bodies and calls, as one is added and as some leave.
use Rattle.std.proofs.Common.{◌≡◌, inl, inr, ℕ, ◌+◌, ◌<◌, ◌≤◌, List, [], ◌∷◌, ◌++◌, length, Some, None, Option, Bool, true, false, cond, arith, ap, subst, sym, ◌∙◌, refl, length-append}
use Rattle.std.specs.Prelude.{slice_get, not, ◌||◌, ◌&&◌, ◌==◌, if◌then◌else◌}
use Rattle.std.specs.List.{filter, list_any}
use Rattle.rv_shape.specs.Shape.{Shape}
use Rattle.rv_shape.specs.Catalogue.{target, shares}
use Rattle.rv_event.specs.Past.{begun, without, left}
use Rattle.rv_event.specs.declared.entry.Body.{Body}
use Rattle.rv_event.proofs.Matching.{by}
use Rattle.rv_event.proofs.Unnamed.{filter_append}
use Rattle.rv_history.specs.Exclusion.{conflicts}
use Rattle.rv_history.specs.Orderly.{is_on, is_exclusive_on, IsShared, IsProtected, Each}
use Rattle.rv_history.proofs.Answered.{and_true, and_false}
use Rattle.rv_history.proofs.Stances.{itself, same_number, some_is}
use Rattle.rv_history.proofs.Loaded.{protected_stays}

-- Tests over a list

pub or_none : (a b : Bool) → (a || b) ≡ false → (a ≡ false) × (b ≡ false)
or_none true b e = absurd (cc)
or_none false b e = (refl, e)

pub none_on : (p : Body → Bool) (bs : List Body) → list_any p bs ≡ false → length (filter p bs) ≡ 0
none_on p [] e = refl
none_on p (b ∷ bs) e =
    let both = or_none (p b) (list_any p bs) e in
    ap (λ t. length (cond t (b ∷ filter p bs) (filter p bs))) both.0 ∙ none_on p bs both.1

pub any_less : (p : Body → Bool) (a : ℕ) (bs : List Body) → list_any p bs ≡ false → list_any p (without a bs) ≡ false
any_less p a [] e = refl
any_less p a (b ∷ bs) e =
    let both = or_none (p b) (list_any p bs) e in
    either (b.actor == a) both.1 (ap (λ t. t || list_any p (without a bs)) both.0 ∙ any_less p a bs both.1)
  where
    either : (t : Bool) → list_any p bs ≡ false → list_any p (b ∷ without a bs) ≡ false → list_any p (if t then bs else b ∷ without a bs) ≡ false
    either true x y = x
    either false x y = y

pub count_less : (p : Body → Bool) (a : ℕ) (bs : List Body) → length (filter p (without a bs)) ≤ length (filter p bs)
count_less p a [] = omega arith
count_less p a (b ∷ bs) = grind (arith, count_less p a bs)

-- the innermost body of an actor is gone
pub one_less : (p : Body → Bool) (a : ℕ) (b : Body) (bs : List Body) → slice_get (filter (by a) bs) 0 ≡ Some b → p b ≡ true → length (filter p (without a bs)) + 1 ≡ length (filter p bs)
one_less p a b [] h e = absurd (cc)
one_less p a b (x ∷ bs) h e = by_actor (x.actor == a) h (one_less p a b bs)
  where
    by_kept : (t : Bool) → length (filter p (without a bs)) + 1 ≡ length (filter p bs) →
        length (cond t (x ∷ filter p (without a bs)) (filter p (without a bs))) + 1 ≡ length (cond t (x ∷ filter p bs) (filter p bs))
    by_kept true rest = omega (arith, rest)
    by_kept false rest = rest

    by_actor : (t : Bool) → slice_get (cond t (x ∷ filter (by a) bs) (filter (by a) bs)) 0 ≡ Some b →
        (slice_get (filter (by a) bs) 0 ≡ Some b → p b ≡ true → length (filter p (without a bs)) + 1 ≡ length (filter p bs)) →
        length (filter p (if t then bs else x ∷ without a bs)) + 1 ≡ length (cond (p x) (x ∷ filter p bs) (filter p bs))
    by_actor true g rest =
        let one : length (x ∷ filter p bs) ≡ length (cond (p x) (x ∷ filter p bs) (filter p bs)) = ap (λ t. length (cond t (x ∷ filter p bs) (filter p bs))) (sym (ap p (some_is x b g) ∙ e)) in
        omega (arith, one)
    by_actor false g rest = by_kept (p x) (rest g e)

-- a test that it fails holds of one of the others or of none
pub any_kept : (p : Body → Bool) (a : ℕ) (b : Body) (bs : List Body) → slice_get (filter (by a) bs) 0 ≡ Some b → p b ≡ false → list_any p (without a bs) ≡ list_any p bs
any_kept p a b [] h e = absurd (cc)
any_kept p a b (x ∷ bs) h e = by_actor (x.actor == a) h (any_kept p a b bs)
  where
    by_actor : (t : Bool) → slice_get (cond t (x ∷ filter (by a) bs) (filter (by a) bs)) 0 ≡ Some b →
        (slice_get (filter (by a) bs) 0 ≡ Some b → p b ≡ false → list_any p (without a bs) ≡ list_any p bs) →
        list_any p (if t then bs else x ∷ without a bs) ≡ (p x || list_any p bs)
    by_actor true g rest = ap (λ t. t || list_any p bs) (sym (ap p (some_is x b g) ∙ e))
    by_actor false g rest = ap (λ t. p x || t) (rest g e)

any_same : (p q : Body → Bool) (bs : List Body) → ((b : Body) → p b ≡ q b) → list_any p bs ≡ list_any q bs
any_same p q [] same = refl
any_same p q (b ∷ bs) same = λ i. same b i || any_same p q bs same i

pub at_most_one : (p : Body → Bool) (b : Body) (bs : List Body) → length (filter p bs) ≡ 0 → length (filter p (b ∷ bs)) ≤ 1
at_most_one p b bs e = grind arith

-- the first that passes a test passes it
head : Body → List Body → Body
head y [] = y
head y (z ∷ zs) = z

pub filter_first : (p : Body → Bool) (xs : List Body) (c : Body) (cs : List Body) → filter p xs ≡ c ∷ cs → p c ≡ true
unfolding head
filter_first p [] c cs e = absurd (cc)
filter_first p (x ∷ xs) c cs e = by_test (p x) refl e (filter_first p xs c cs)
  where
    by_test : (t : Bool) → p x ≡ t → cond t (x ∷ filter p xs) (filter p xs) ≡ c ∷ cs → (filter p xs ≡ c ∷ cs → p c ≡ true) → p c ≡ true
    by_test true is f rest = ap p (sym (ap (head x) f)) ∙ is
    by_test false is f rest = rest f

pub filter_swap : (p q : Body → Bool) (xs : List Body) → filter p (filter q xs) ≡ filter q (filter p xs)
filter_swap p q [] = refl
filter_swap p q (x ∷ xs) = by_tests (p x) (q x) refl refl (filter_swap p q xs)
  where
    by_tests : (t u : Bool) → p x ≡ t → q x ≡ u → filter p (filter q xs) ≡ filter q (filter p xs) → filter p (cond u (x ∷ filter q xs) (filter q xs)) ≡ filter q (cond t (x ∷ filter p xs) (filter p xs))
    by_tests true true a b h = ap (λ t. cond t (x ∷ filter p (filter q xs)) (filter p (filter q xs))) a ∙ ap (λ ys. x ∷ ys) h ∙ ap (λ t. cond t (x ∷ filter q (filter p xs)) (filter q (filter p xs))) (sym b)
    by_tests true false a b h = h ∙ ap (λ t. cond t (x ∷ filter q (filter p xs)) (filter q (filter p xs))) (sym b)
    by_tests false true a b h = ap (λ t. cond t (x ∷ filter p (filter q xs)) (filter p (filter q xs))) a ∙ h
    by_tests false false a b h = h

pub count_filter : (p q : Body → Bool) (xs : List Body) → length (filter p (filter q xs)) ≤ length (filter p xs)
count_filter p q [] = omega arith
count_filter p q (x ∷ xs) = grind (arith, count_filter p q xs)

-- Sharing

pub shared_end : (shapes : List Shape) (a : ℕ) (bs : List Body) (o : ℕ) → IsShared shapes bs o → IsShared shapes (without a bs) o
shared_end shapes a bs o (inl e) = inl (any_less (is_exclusive_on shapes o) a bs e)
shared_end shapes a bs o (inr n) = inr (omega (arith, count_less (is_on o) a bs, n))

by_mode : (shapes : List Shape) (b : Body) (bs : List Body) (f : Bool) (o : ℕ) → shares (target shapes b.object b.operation) ≡ f → list_any (conflicts shapes b.object f) bs ≡ false → b.object ≡ o → IsShared shapes (b ∷ bs) o
by_mode shapes b bs true o is free same =
    inl (ap (λ t. (b.object == o) && not t || list_any (is_exclusive_on shapes o) bs) is
    ∙ ap (λ t. t || list_any (is_exclusive_on shapes o) bs) (and_false (b.object == o))
    ∙ subst (λ n. list_any (conflicts shapes n true) bs ≡ false) same free)
by_mode shapes b bs false o is free same =
    let none = sym (any_same (conflicts shapes b.object false) (is_on b.object) bs (λ x. and_true (x.object == b.object))) ∙ free in
    inr (at_most_one (is_on o) b bs (subst (λ n. length (filter (is_on n) bs) ≡ 0) same (none_on (is_on b.object) bs none)))

-- a body on another object
elsewhere : (shapes : List Shape) (b : Body) (bs : List Body) (o : ℕ) → (b.object == o) ≡ false → IsShared shapes bs o → IsShared shapes (b ∷ bs) o
elsewhere shapes b bs o e (inl none) = inl (ap (λ t. (t && not (shares (target shapes b.object b.operation))) || list_any (is_exclusive_on shapes o) bs) e ∙ none)
elsewhere shapes b bs o e (inr few) = inr (subst (λ t. length (cond t (b ∷ filter (is_on o) bs) (filter (is_on o) bs)) ≤ 1) (sym e) few)

-- one more body, that was not kept out
pub shared_start : (shapes : List Shape) (b : Body) (bs : List Body) (f : Bool) (o : ℕ) → shares (target shapes b.object b.operation) ≡ f → list_any (conflicts shapes b.object f) bs ≡ false → IsShared shapes bs o → IsShared shapes (b ∷ bs) o
shared_start shapes b bs f o is free was = by_object (b.object == o) refl
  where
    by_object : (t : Bool) → (b.object == o) ≡ t → IsShared shapes (b ∷ bs) o
    by_object false e = elsewhere shapes b bs o e was
    by_object true e = by_mode shapes b bs f o is free (same_number b.object o e)

-- one more body, where there was none
pub shared_first : (shapes : List Shape) (b : Body) (bs : List Body) (o : ℕ) → length (filter (is_on b.object) bs) ≡ 0 → IsShared shapes bs o → IsShared shapes (b ∷ bs) o
shared_first shapes b bs o none was = by_object (b.object == o) refl
  where
    by_object : (t : Bool) → (b.object == o) ≡ t → IsShared shapes (b ∷ bs) o
    by_object false e = elsewhere shapes b bs o e was
    by_object true e = inr (at_most_one (is_on o) b bs (subst (λ n. length (filter (is_on n) bs) ≡ 0) (same_number b.object o e) none))

-- an exclusive body that ends was alone
pub alone_end : (shapes : List Shape) (a : ℕ) (b : Body) (bs : List Body) → slice_get (filter (by a) bs) 0 ≡ Some b → shares (target shapes b.object b.operation) ≡ false → IsShared shapes bs b.object →
    length (filter (is_on b.object) (without a bs)) ≡ 0
alone_end shapes a b bs inner is (inl none) =
    let exclusive : is_exclusive_on shapes b.object b ≡ true = λ i. itself b.object i && not (is i) in
    let one = one_less (is_exclusive_on shapes b.object) a b bs inner exclusive in
    absurd (omega (arith, one, none_on (is_exclusive_on shapes b.object) bs none))
alone_end shapes a b bs inner is (inr few) =
    let one = one_less (is_on b.object) a b bs inner (itself b.object) in
    omega (arith, one, few)

-- Stacks

pub stack_start : (limit : ℕ) (b : Body) (bs : List Body) (a : ℕ) → length (filter (by b.actor) bs) < limit → length (filter (by a) bs) ≤ limit → length (filter (by a) (b ∷ bs)) ≤ limit
stack_start limit b bs a few was = by_test (b.actor == a) refl
  where
    by_test : (t : Bool) → (b.actor == a) ≡ t → length (cond t (b ∷ filter (by a) bs) (filter (by a) bs)) ≤ limit
    by_test true e =
        let here : length (filter (by a) bs) < limit = subst (λ n. length (filter (by n) bs) < limit) (same_number b.actor a e) few in
        omega (arith, here)
    by_test false e = was

-- Queues

pub count_left : (p : Body → Bool) (n : Option ℕ) (calls : List Body) → length (filter p (left n calls)) ≤ length (filter p calls)
count_left p None calls = omega arith
count_left p (Some n) [] = omega arith
count_left p (Some n) (c ∷ calls) = grind (arith, count_left p (Some n) calls)

pub queue_join : (limit : ℕ) (c : Body) (calls : List Body) (o : ℕ) → length (filter (is_on c.object) calls) < limit → length (filter (is_on o) calls) ≤ limit → length (filter (is_on o) (calls ++ c ∷ [])) ≤ limit
queue_join limit c calls o few was =
    let split : length (filter (is_on o) (calls ++ c ∷ [])) ≡ length (filter (is_on o) calls) + length (filter (is_on o) (c ∷ [])) =
    ap length (filter_append (is_on o) calls (c ∷ [])) ∙ length-append (filter (is_on o) calls) (filter (is_on o) (c ∷ [])) in
    let sum : length (filter (is_on o) calls) + length (filter (is_on o) (c ∷ [])) ≤ limit = by_test (c.object == o) refl in
    omega (arith, split, sum)
  where
    by_test : (t : Bool) → (c.object == o) ≡ t → length (filter (is_on o) calls) + length (cond t (c ∷ []) []) ≤ limit
    by_test true e =
        let here : length (filter (is_on o) calls) < limit = subst (λ n. length (filter (is_on n) calls) < limit) (same_number c.object o e) few in
        omega (arith, here)
    by_test false e = omega (arith, was)

-- What holds of each

pub each_without : (P : Body → Type 0) (a : ℕ) (bs : List Body) → Each P bs → Each P (without a bs)
each_without P a [] k = k
each_without P a (b ∷ bs) k = either (b.actor == a) k.1 (each_without P a bs k.1)
  where
    either : (t : Bool) → Each P bs → Each P (without a bs) → Each P (if t then bs else b ∷ without a bs)
    either true x y = x
    either false x y = (k.0, y)

pub each_filter : (P : Body → Type 0) (p : Body → Bool) (bs : List Body) → Each P bs → Each P (filter p bs)
each_filter P p [] k = k
each_filter P p (b ∷ bs) k = either (p b) k.0 (each_filter P p bs k.1)
  where
    either : (t : Bool) → P b → Each P (filter p bs) → Each P (cond t (b ∷ filter p bs) (filter p bs))
    either true x y = (x, y)
    either false x y = y

pub each_left : (P : Body → Type 0) (n : Option ℕ) (bs : List Body) → Each P bs → Each P (left n bs)
each_left P None bs k = k
each_left P (Some n) bs k = each_filter P (λ c. not (c.actor == n)) bs k

pub each_append : (P : Body → Type 0) (bs : List Body) (b : Body) → Each P bs → P b → Each P (bs ++ b ∷ [])
each_append P [] b k one = (one, tt)
each_append P (x ∷ bs) b k one = (k.0, each_append P bs b k.1 one)

pub each_map : (P Q : Body → Type 0) (bs : List Body) → ((b : Body) → P b → Q b) → Each P bs → Each Q bs
each_map P Q [] f k = tt
each_map P Q (b ∷ bs) f k = (f b k.0, each_map P Q bs f k.1)

pub each_both : (P Q R : Body → Type 0) (bs : List Body) → ((b : Body) → P b → Q b → R b) → Each P bs → Each Q bs → Each R bs
each_both P Q R [] f k m = tt
each_both P Q R (b ∷ bs) f k m = (f b k.0 m.0, each_both P Q R bs f k.1 m.1)

pub each_begun : (P : Body → Type 0) (q : Option Body) (bs : List Body) → ((b : Body) → q ≡ Some b → P b) → Each P bs → Each P (begun q bs)
each_begun P None bs f k = k
each_begun P (Some b) bs f k = (f b refl, k)

pub each_first : (P : Body → Type 0) (a : ℕ) (b : Body) (bs : List Body) → Each P bs → slice_get (filter (by a) bs) 0 ≡ Some b → P b
each_first P a b [] k e = absurd (cc)
each_first P a b (x ∷ bs) k e = by_actor (x.actor == a) e (each_first P a b bs k.1)
  where
    by_actor : (t : Bool) → slice_get (cond t (x ∷ filter (by a) bs) (filter (by a) bs)) 0 ≡ Some b → (slice_get (filter (by a) bs) 0 ≡ Some b → P b) → P b
    by_actor true f rest = subst P (some_is x b f) k.0
    by_actor false f rest = rest f

pub each_other : (a : ℕ) (bs : List Body) → slice_get (filter (by a) bs) 0 ≡ None → Each (λ b. (b.actor == a) ≡ false) bs
each_other a [] e = tt
each_other a (x ∷ bs) e = by_actor (x.actor == a) refl e (each_other a bs)
  where
    by_actor : (t : Bool) → (x.actor == a) ≡ t → slice_get (cond t (x ∷ filter (by a) bs) (filter (by a) bs)) 0 ≡ None → (slice_get (filter (by a) bs) 0 ≡ None → Each (λ b. (b.actor == a) ≡ false) bs) →
        ((x.actor == a) ≡ false) × Each (λ b. (b.actor == a) ≡ false) bs
    by_actor true is f rest = absurd (cc)
    by_actor false is f rest = (is, rest f)

-- A load

pub exclusive_more : (old more : List Shape) (o : ℕ) (bs : List Body) → Each (IsProtected old) bs → list_any (is_exclusive_on (old ++ more) o) bs ≡ list_any (is_exclusive_on old o) bs
exclusive_more old more o [] k = refl
exclusive_more old more o (b ∷ bs) k =
    let same : target (old ++ more) b.object b.operation ≡ target old b.object b.operation = protected_stays old more b.object b.operation k.0.0 k.0.1 ∙ sym k.0.1 in
    λ i. ((b.object == o) && not (shares (same i))) || exclusive_more old more o bs k.1 i

pub shared_more : (old more : List Shape) (o : ℕ) (bs : List Body) → Each (IsProtected old) bs → IsShared old bs o → IsShared (old ++ more) bs o
shared_more old more o bs k (inl e) = inl (exclusive_more old more o bs k ∙ e)
shared_more old more o bs k (inr n) = inr n
