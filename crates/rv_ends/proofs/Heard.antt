-- Open bodies that hear an ask one after another, and what stands among asks.
use Rattle.std.proofs.Common.{◌≡◌, ℕ, zero, suc, ◌+◌, ◌<◌, ◌≤◌, List, [], ◌∷◌, true, false, length, get_or, set, map, drop, refl, sym, ap, ◌∙◌, subst, arith}
use Rattle.rv_code.specs.Bodies.{UnitBodies}
use Rattle.rv_event.specs.declared.entry.Answer.{Answer}
use Rattle.rv_event.specs.declared.entry.Request.{Request}
use Rattle.rv_exec.specs.Asking.{Trace}
use Rattle.rv_ends.specs.Afoot.{Open, open_view}
use Rattle.rv_ends.specs.Explained.{calls_without_text, is_without_text}
use Rattle.rv_ends.specs.declared.afoot.OpenBody.{OpenBody}

-- so many of the first bodies, changed
abbrev pub upto : ℕ → (Open → Open) → List Open → List Open
upto zero f bodies = bodies
upto (suc n) f [] = []
upto (suc n) f (body ∷ bodies) = f body ∷ upto n f bodies

head_is : (a b : Open) (xs ys : List Open) → a ∷ xs ≡ b ∷ ys → a ≡ b
head_is a b xs ys e = cc e

tail_is : (a b : Open) (xs ys : List Open) → a ∷ xs ≡ b ∷ ys → xs ≡ ys
tail_is a b xs ys e = cc e

both : (a b : Open) (xs ys : List Open) → a ≡ b → xs ≡ ys → a ∷ xs ≡ b ∷ ys
both a b xs ys e f = λ i. e i ∷ f i

one_more : (i : ℕ) (f : Open → Open) (xs ys : List OpenBody) (v d : OpenBody) → i < length ys → map open_view ys ≡ upto i f (map open_view xs) → open_view v ≡ f (open_view (get_or ys i d)) →
    map open_view (set ys i v) ≡ upto (suc i) f (map open_view xs)
one_more i f xs [] v d lt e g = absurd (omega (arith, lt))
one_more zero f [] (y ∷ ys) v d lt e g = absurd cc
one_more zero f (x ∷ xs) (y ∷ ys) v d lt e g =
    both (open_view v) (f (open_view x)) (map open_view ys) (map open_view xs)
    (g ∙ ap f (head_is (open_view y) (open_view x) (map open_view ys) (map open_view xs) e))
    (tail_is (open_view y) (open_view x) (map open_view ys) (map open_view xs) e)
one_more (suc i) f [] (y ∷ ys) v d lt e g = absurd cc
one_more (suc i) f (x ∷ xs) (y ∷ ys) v d lt e g =
    both (open_view y) (f (open_view x)) (map open_view (set ys i v)) (upto (suc i) f (map open_view xs))
    (head_is (open_view y) (f (open_view x)) (map open_view ys) (upto i f (map open_view xs)) e)
    (one_more i f xs ys v d (omega (arith, lt)) (tail_is (open_view y) (f (open_view x)) (map open_view ys) (upto i f (map open_view xs)) e) g)

pub heard_more : (i : ℕ) (f : Open → Open) (xs ys : List OpenBody) (v d : OpenBody) → i < length ys → map open_view ys ≡ upto i f (map open_view xs) → open_view v ≡ f (open_view (get_or ys i d)) →
    map open_view (set ys i v) ≡ upto (i + 1) f (map open_view xs)
heard_more i f xs ys v d lt e g = let n : i + 1 ≡ suc i = omega arith in one_more i f xs ys v d lt e g ∙ ap (λ (m : ℕ). upto m f (map open_view xs)) (sym n)

all_of_them : (i : ℕ) (f : Open → Open) (bodies : List Open) → length bodies ≤ i → upto i f bodies ≡ map f bodies
all_of_them zero f [] le = refl
all_of_them zero f (b ∷ bodies) le = absurd (omega (arith, le))
all_of_them (suc i) f [] le = refl
all_of_them (suc i) f (b ∷ bodies) le = ap (λ (l : List Open). f b ∷ l) (all_of_them i f bodies (omega (arith, le)))

as_many : (xs : List OpenBody) → length (map open_view xs) ≡ length xs
as_many [] = refl
as_many (x ∷ xs) = ap suc (as_many xs)

length-upto : (i : ℕ) (f : Open → Open) (bodies : List Open) → length (upto i f bodies) ≡ length bodies
length-upto zero f bodies = refl
length-upto (suc i) f [] = refl
length-upto (suc i) f (b ∷ bodies) = ap suc (length-upto i f bodies)

pub heard_all : (i : ℕ) (f : Open → Open) (xs ys : List OpenBody) → length ys ≤ i → map open_view ys ≡ upto i f (map open_view xs) → map open_view ys ≡ map f (map open_view xs)
heard_all i f xs ys le e =
    let same : length (map open_view xs) ≡ length ys = sym (length-upto i f (map open_view xs)) ∙ ap (λ (l : List Open). length l) (sym e) ∙ as_many ys in
    e ∙ all_of_them i f (map open_view xs) (omega (arith, le, same))

-- Asks that started no body without a text.

passed : (bodies : UnitBodies) (xs : Trace) (i : ℕ) (x : Request × Answer) → i < length xs → x ≡ get_or xs i x → is_without_text bodies x.0 x.1 ≡ false → calls_without_text bodies (drop i xs) ≡ calls_without_text bodies (drop (suc i) xs)
passed bodies [] i x lt at is = absurd (omega (arith, lt))
passed bodies (y ∷ xs) zero x lt at is = let e = subst (λ (k : Request × Answer). is_without_text bodies k.0 k.1 ≡ false) at is in rw e refl
passed bodies (y ∷ xs) (suc i) x lt at is = passed bodies xs i x (omega (arith, lt)) at is

pub text_passed : (bodies : UnitBodies) (xs : Trace) (i : ℕ) (x : Request × Answer) → i < length xs → x ≡ get_or xs i x → is_without_text bodies x.0 x.1 ≡ false → calls_without_text bodies (drop i xs) ≡ calls_without_text bodies (drop (i + 1) xs)
text_passed bodies xs i x lt at is = let e : i + 1 ≡ suc i = omega arith in passed bodies xs i x lt at is ∙ ap (λ (n : ℕ). calls_without_text bodies (drop n xs)) (sym e)

pub text_found : (bodies : UnitBodies) (xs : Trace) (i : ℕ) (x : Request × Answer) → i < length xs → x ≡ get_or xs i x → is_without_text bodies x.0 x.1 ≡ true → calls_without_text bodies (drop i xs) ≡ true
text_found bodies [] i x lt at is = absurd (omega (arith, lt))
text_found bodies (y ∷ xs) zero x lt at is = let e = subst (λ (k : Request × Answer). is_without_text bodies k.0 k.1 ≡ true) at is in rw e refl
text_found bodies (y ∷ xs) (suc i) x lt at is = text_found bodies xs i x (omega (arith, lt)) at is
