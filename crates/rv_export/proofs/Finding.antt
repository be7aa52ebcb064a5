-- What many lines say alike is found one by one.
use Rattle.std.proofs.Common.{◌≡◌, ◌-◌, ◌<◌, ◌≤◌, ◌+◌, ℕ, zero, suc, Bool, false, List, [], ◌∷◌, ◌++◌, Some, None, Option, length, get_or, take, map, refl, sym, ap, ◌∙◌, subst, arith, if◌then◌else◌}
use Rattle.std.specs.Prelude.{◌==◌, IfSome, String, slice_get, string_bytes}
use Rattle.std.specs.Option.{option_map}
use Rattle.std.proofs.lemmas.Bool.Decides.{nat_tests}
use Rattle.std.proofs.lemmas.List.{map_more}
use Rattle.std.proofs.lemmas.Option.{slice_get-map}
use Rattle.std.specs.Global.{Global}
use Rattle.rv_access.specs.Lines.{line_at}
use Rattle.rv_access.specs.Text.{line_text}
use Rattle.rv_access.specs.Words.{Words}
use Rattle.rv_refused.specs.Refusals.{line_words}

-- one more, by its place
pub each_more : {X : Type 0} (P : ℕ → X → Type 0) (xs : List X) (x : X) (n : ℕ) → ((i : ℕ) → IfSome (slice_get xs i) (P i)) → n ≡ length xs → P n x → (i : ℕ) → IfSome (slice_get (xs ++ x ∷ []) i) (P i)
each_more {X} P [] x n each is p zero = subst (λ (m : ℕ). P m x) is p
each_more {X} P [] x n each is p (suc i) = tt
each_more {X} P (y ∷ ys) x n each is p zero = each 0
each_more {X} P (y ∷ ys) x n each is p (suc i) =
    each_more (λ (m : ℕ). P (suc m)) ys x (length ys) (λ j. each (suc j)) refl (subst (λ (m : ℕ). P m x) is p) i

long_is : {X : Type 0} (xs : List X) (x : X) → length (xs ++ x ∷ []) ≡ suc (length xs)
long_is [] x = refl
long_is (y ∷ ys) x = ap (λ (n : ℕ). suc n) (long_is ys x)

pub long_more : {X : Type 0} (xs ys : List X) (x : X) (n : ℕ) → ys ≡ xs ++ x ∷ [] → n ≡ length xs → n + 1 ≡ length ys
long_more xs ys x n is long =
    let e : length ys ≡ suc (length xs) = ap length is ∙ long_is xs x in
    omega arith

pub get_some : {X : Type 0} (xs : List X) (i : ℕ) (x : X) → i < length xs → x ≡ get_or xs i x → Some x ≡ slice_get xs i
get_some [] i x lt e = absurd (omega arith)
get_some (y ∷ ys) zero x lt e = ap Some e
get_some (y ∷ ys) (suc i) x lt e = get_some ys i x (omega arith) e

pub get_none : {X : Type 0} (xs : List X) (i : ℕ) → length xs ≤ i → None ≡ slice_get xs i
get_none [] i le = refl
get_none (y ∷ ys) zero le = absurd (omega arith)
get_none (y ∷ ys) (suc i) le = get_none ys i (omega arith)

pub at_some : {X : Type 0} (P : X → Type 0) (o : Option X) (x : X) → Some x ≡ o → IfSome o P → P x
at_some P o x e = subst (λ (p : Option _). IfSome p P → P x) e (λ h. h)

map_push : {X : Type 0} (f : X → List ℕ) (xs : List X) (x : X) → map f (xs ++ x ∷ []) ≡ map f xs ++ f x ∷ []
map_push f [] x = refl
map_push f (y ∷ ys) x = ap (λ (t : List (List ℕ)). f y ∷ t) (map_push f ys x)

-- the words of a line of a list

pub words_more : (words new : List (String Global)) (one : String Global) (lines : List Words) (i : ℕ) (line : Words) → new ≡ words ++ one ∷ [] → i < length lines → line ≡ get_or lines i line → string_bytes one ≡ line_text line →
    map string_bytes words ≡ map line_text (take i lines) → map string_bytes new ≡ map line_text (take (i + 1) lines)
words_more words new one lines i line new_is lt line_is one_is before =
    ap (λ (ws : List (String Global)). map string_bytes ws) new_is ∙ map_push string_bytes words one
    ∙ ap (λ (t : List (List ℕ)). t ++ string_bytes one ∷ []) before
    ∙ ap (λ (t : List ℕ). map line_text (take i lines) ++ t ∷ []) (one_is ∙ ap line_text line_is)
    ∙ sym (map_more line_text lines i line lt)

abbrev pub words_in : Option (List ℕ) → List ℕ
words_in None = line_words None
words_in (Some words) = words

words_are : (line : Option Words) → words_in (option_map line_text line) ≡ line_words line
words_are None = refl
words_are (Some line) = refl

some_number : (number : ℕ) → (number ≡ 0 → ⊥) → (number == 0) ≡ false
some_number number not = grind (arith, nat_tests)

pub line_found : (lines : List (String Global)) (list : List Words) (number : ℕ) (found : Option (String Global)) → (number ≡ 0 → ⊥) → map string_bytes lines ≡ map line_text list → found ≡ slice_get lines (number - 1) →
    words_in (option_map string_bytes found) ≡ line_words (line_at list number)
line_found lines list number found not same is =
    ap (λ (o : Option (String Global)). words_in (option_map string_bytes o)) is
    ∙ ap words_in (sym (slice_get-map string_bytes lines (number - 1)) ∙ ap (λ (xs : List (List ℕ)). slice_get xs (number - 1)) same ∙ slice_get-map line_text list (number - 1))
    ∙ words_are (slice_get list (number - 1))
    ∙ sym (ap (λ (b : Bool). line_words (if b then None else slice_get list (number - 1))) (some_number number not))
