-- Rows are added one by one.
use Rattle.std.proofs.Common.{refl, sym, ◌≡◌, ℕ, ◌+◌, ◌<◌, List, [], ◌∷◌, ◌++◌, length, get_or, take, map, ap, ◌∙◌, subst}
use Rattle.std.specs.List.{AllZip}
use Rattle.std.proofs.lemmas.List.{take_more, append_assoc}

pub zip_push : {A B : Type 0} (R : A → B → Type 0) (xs : List A) (ys : List B) (x : A) (y : B) → AllZip R xs ys → R x y → AllZip R (xs ++ x ∷ []) (ys ++ y ∷ [])
zip_push R [] [] x y all last = (last, all)
zip_push R [] (z ∷ ys) x y all last = absurd all
zip_push R (w ∷ xs) [] x y all last = absurd all
zip_push R (w ∷ xs) (z ∷ ys) x y all last = (all.0, zip_push R xs ys x y all.1 last)

pub map_push : {A B : Type 0} (f : A → B) (xs : List A) (x : A) → map f (xs ++ x ∷ []) ≡ map f xs ++ f x ∷ []
map_push f [] x = refl
map_push f (y ∷ xs) x = ap (λ ys. f y ∷ ys) (map_push f xs x)

-- an item more of a list gives a row more
pub zip_more : {X A B : Type 0} (R : A → B → Type 0) (f : X → A) (before : List A) (xs : List X) (ys : List B) (i : ℕ) (x : X) (y : B) → i < length xs → x ≡ get_or xs i x
    → AllZip R (before ++ map f (take i xs)) ys → R (f x) y → AllZip R (before ++ map f (take (i + 1) xs)) (ys ++ y ∷ [])
zip_more R f before xs ys i x y within is all last =
    let longer : before ++ map f (take (i + 1) xs) ≡ (before ++ map f (take i xs)) ++ f x ∷ [] =
    ap (λ zs. before ++ map f zs) (take_more xs i x within ∙ ap (λ z. take i xs ++ z ∷ []) (sym is))
    ∙ ap (λ zs. before ++ zs) (map_push f (take i xs) x) ∙ sym (append_assoc before (map f (take i xs)) (f x ∷ [])) in
    subst (λ zs. AllZip R zs (ys ++ y ∷ [])) (sym longer) (zip_push R (before ++ map f (take i xs)) ys (f x) y all last)
