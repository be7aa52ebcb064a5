-- The ends of windows are added one by one, then put in order.
use Rattle.std.proofs.Common.{◌≡◌, ℕ, ◌+◌, ◌<◌, List, [], ◌∷◌, ◌++◌, length, get_or, take, ap, sym, ◌∙◌, subst, Option, Some, None}
use Rattle.std.specs.List.{AllZip, Contains}
use Rattle.std.specs.List.Sorted.{IsPermutation}
use Rattle.std.proofs.lemmas.List.{take_more}
use Rattle.std.proofs.lemmas.List.Elements.{All-push}
use Rattle.std.proofs.lemmas.List.Sorted.{Contains-permutation}
use Rattle.rv_access.specs.Words.{WindowWords, Words}
use Rattle.rv_access.specs.Windows.{end_tick, first_tick}
use Rattle.rv_table.specs.Spans.{AreEnds, HasEnds}
use Rattle.rv_table.proofs.Zips.{zip_push}

-- ends among which all others are
abbrev Holds : List ℕ → List ℕ → Type 0
Holds more ends = (end : ℕ) → Contains ends end → Contains more end

has_more : (ends more : List ℕ) (window : Option WindowWords) → Holds more ends → HasEnds ends window → HasEnds more window
has_more ends more None holds h = tt
has_more ends more (Some w) holds h = (holds (first_tick w) h.0, holds (end_tick w) h.1)

are_more : (ends more : List ℕ) (lines : List Words) → Holds more ends → AreEnds ends lines → AreEnds more lines
are_more ends more lines holds h = λ k d less. has_more ends more (get_or lines k d).window holds (h k d less)

pub one_more : (ends : List ℕ) (lines : List Words) (i : ℕ) (line : Words) → i < length lines → line ≡ get_or lines i line → AreEnds ends (take i lines) → HasEnds ends line.window → AreEnds ends (take (i + 1) lines)
one_more ends lines i line within is all last =
    subst (AreEnds ends) (sym (take_more lines i line within ∙ ap (λ l. take i lines ++ l ∷ []) (sym is))) (All-push (λ (l : Words). HasEnds ends l.window) (take i lines) line all last)

pub ordered : (ends sorted : List ℕ) (lines : List Words) → IsPermutation ends sorted → AreEnds ends lines → AreEnds sorted lines
ordered ends sorted lines moved h = are_more ends sorted lines (λ end there. Contains-permutation ends sorted end moved there) h

-- a row more
pub zip_take : {A B : Type 0} (R : A → B → Type 0) (first : A) (xs : List A) (ys : List B) (i : ℕ) (x : A) (y : B) → i < length xs → x ≡ get_or xs i x → AllZip R (first ∷ take i xs) ys → R x y → AllZip R (first ∷ take (i + 1) xs) (ys ++ y ∷ [])
zip_take R first xs ys i x y within is all last =
    let longer : (first ∷ take (i + 1) xs) ≡ (first ∷ take i xs) ++ x ∷ [] = ap (λ zs. first ∷ zs) (take_more xs i x within ∙ ap (λ z. take i xs ++ z ∷ []) (sym is)) in
    subst (λ zs. AllZip R zs (ys ++ y ∷ [])) (sym longer) (zip_push R (first ∷ take i xs) ys x y all last)
