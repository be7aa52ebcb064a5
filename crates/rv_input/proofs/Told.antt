-- What calls tell of what comes.
use Rattle.std.proofs.Common.{◌≡◌, ℕ, zero, suc, ◌+◌, ◌-◌, ◌<◌, Bool, List, [], ◌∷◌, ◌++◌, Option, Some, None, MatchOption, IfSome, length, take, drop, refl, sym, ap, ◌∙◌, subst, arith, append_assoc, length-drop}
use Rattle.std.specs.Io.KnownBytes.{Consumes, IsAtEnd, Keeps, prepend_known}
use Rattle.rv_input.specs.Coming.{Reading, IfTold, GivesBefore, GivesByte, IsBefore, Shortens, coming, most_before}

-- an input of which nothing was read
abbrev fresh : Reading
fresh = record { ahead = []; given = 0 }

-- something is ahead
pub some_ahead : (n : ℕ) (xs : List ℕ) → n < length xs → drop n xs ≡ [] → ⊥
some_ahead n xs h e = let long = length-drop n xs in let none : length (drop n xs) ≡ 0 = ap length e in omega (arith, long, none, h)

-- one call behind another
pub told_both : (P Q R : List ℕ → List ℕ → Type 0) (a b c : Option (List ℕ)) → ((x y z : List ℕ) → P x y → Q y z → R x z) → IfTold a b P → IfTold b c Q → IfTold a c R
told_both P Q R None b c f p q = tt
told_both P Q R (Some x) None c f p q = absurd p
told_both P Q R (Some x) (Some y) None f p q = absurd q
told_both P Q R (Some x) (Some y) (Some z) f p q = f x y z p q

-- the same call in other words
pub told_as : (P Q : List ℕ → List ℕ → Type 0) (a b : Option (List ℕ)) → ((x y : List ℕ) → P x y → Q x y) → IfTold a b P → IfTold a b Q
told_as P Q None b f p = tt
told_as P Q (Some x) None f p = absurd p
told_as P Q (Some x) (Some y) f p = f x y p

-- the same call, of an answer in other words
pub told_is : {X : Type 0} (F : X → List ℕ → List ℕ → Type 0) (a b : Option (List ℕ)) (o p : X) → o ≡ p → IfTold a b (F o) → IfTold a b (F p)
told_is F a b o p e t = subst (λ z. IfTold a b (F z)) e t

of_none : (n : ℕ) (xs : List ℕ) → xs ≡ [] → take n xs ≡ []
of_none zero xs e = refl
of_none (suc n) [] e = refl
of_none (suc n) (x ∷ xs) e = absurd (cc e)

-- at the end nothing comes
pub at_end : (most : ℕ) (v w : Reading) (r s : Option (List ℕ)) → Keeps (prepend_known v.ahead r) (prepend_known w.ahead s) → w.ahead ≡ [] → IsAtEnd s → IfTold (coming most v r) (coming most w s) (GivesByte None)
at_end most v w None s k a e = tt
at_end most v w (Some xs) None k a e = absurd k
at_end most v w (Some xs) (Some ys) k a e =
    let none : w.ahead ++ ys ≡ [] = ap (λ (l : List ℕ). l ++ ys) a ∙ e in (of_none (most - v.given) _ (sym k ∙ none), of_none (most - w.given) _ none)

first_taken : (k : ℕ) (byte : ℕ) (bs : List ℕ) → 0 < k → take k (byte ∷ bs) ≡ byte ∷ take (k - 1) bs
first_taken zero byte bs h = absurd (omega (arith, h))
first_taken (suc k) byte bs h = let same : suc k - 1 ≡ k = omega arith in rw same refl

-- a byte that is ahead comes first
pub byte_comes : (most byte : ℕ) (v w u : Reading) (r s : Option (List ℕ)) → Keeps (prepend_known v.ahead r) (prepend_known w.ahead s) → w.given ≡ v.given → w.ahead ≡ byte ∷ u.ahead → u.given ≡ w.given + 1 → v.given < most
    → IfTold (coming most v r) (coming most u s) (GivesByte (Some byte))
byte_comes most byte v w u None s k g a n h = tt
byte_comes most byte v w u (Some xs) None k g a n h = absurd k
byte_comes most byte v w u (Some xs) (Some ys) k g a n h =
    let some : 0 < most - v.given = omega (arith, h) in
    let same : most - v.given - 1 ≡ most - u.given = omega (arith, g, n) in
    ap (take (most - v.given)) (sym k ∙ ap (λ (l : List ℕ). l ++ ys) a) ∙ first_taken (most - v.given) byte (u.ahead ++ ys) some ∙ ap (λ (i : ℕ). byte ∷ take i (u.ahead ++ ys)) same

-- the next byte, or the end
pub byte_told : (most : ℕ) (v w u : Reading) (r s : Option (List ℕ)) (b : Option ℕ) → Keeps (prepend_known v.ahead r) (prepend_known w.ahead s) → w.given ≡ v.given → (w.ahead ≡ [] → IsAtEnd s) → v.given < most
    → MatchOption b ((w.ahead ≡ []) × (u ≡ w)) (λ byte. (w.ahead ≡ byte ∷ u.ahead) × (u.given ≡ w.given + 1)) → IfTold (coming most v r) (coming most u s) (GivesByte b)
byte_told most v w u r s None k g e h t = subst (λ (z : Reading). IfTold (coming most v r) (coming most z s) (GivesByte None)) (sym t.1) (at_end most v w r s k t.0 (e t.0))
byte_told most v w u r s (Some byte) k g e h t = byte_comes most byte v w u r s k g t.0 t.1 h

-- bytes are taken, and then more
pub taken_both : (a b c : Option (List ℕ)) (xs ys : List ℕ) → Consumes a b xs → Consumes b c ys → Consumes a c (xs ++ ys)
taken_both None b c xs ys p q = tt
taken_both (Some x) None c xs ys p q = absurd p
taken_both (Some x) (Some y) None xs ys p q = absurd q
taken_both (Some x) (Some y) (Some z) xs ys p q = p ∙ (ap (λ (l : List ℕ). xs ++ l) q ∙ sym (append_assoc xs ys z))

-- the same bytes are taken
pub taken_as : (a b : Option (List ℕ)) (xs ys : List ℕ) → xs ≡ ys → Consumes a b xs → Consumes a b ys
taken_as a b xs ys e t = subst (λ (l : List ℕ). Consumes a b l) e t

-- What a reader has left

pub shortens_same : (a : Option (List ℕ)) → Shortens a a
shortens_same None = ([], tt)
shortens_same (Some x) = ([], refl)

pub shortens_by : (a b : Option (List ℕ)) (bytes : List ℕ) → Consumes a b bytes → Shortens a b
shortens_by a b bytes t = (bytes, t)

pub shortens_on : (a b c : Option (List ℕ)) → Shortens a b → Shortens b c → Shortens a c
shortens_on a b c p q = (p.0 ++ q.0, taken_both a b c p.0 q.0 p.1 q.1)

-- what is ahead is taken with what was given
ahead_taken : (r s : Option (List ℕ)) (bytes run ahead : List ℕ) → Consumes (prepend_known [] r) (prepend_known ahead s) (bytes ++ run) → Consumes r s (bytes ++ (run ++ ahead))
ahead_taken None s bytes run ahead t = tt
ahead_taken (Some x) None bytes run ahead t = absurd t
ahead_taken (Some x) (Some y) bytes run ahead t =
    t ∙ (append_assoc bytes run (ahead ++ y) ∙ (ap (λ (l : List ℕ). bytes ++ l) (sym (append_assoc run ahead y)) ∙ sym (append_assoc bytes (run ++ ahead) y)))

-- the same of an input of which nothing was read
pub all_taken : (r s : Option (List ℕ)) (v w : Reading) (bytes run rest : List ℕ) → v ≡ fresh → rest ≡ run ++ w.ahead → Consumes (prepend_known v.ahead r) (prepend_known w.ahead s) (bytes ++ run) → Consumes r s (bytes ++ rest)
all_taken r s v w bytes run rest is e t =
    subst (λ (l : List ℕ). Consumes r s (bytes ++ l)) (sym e) (ahead_taken r s bytes run w.ahead (subst (λ (i : Reading). Consumes (prepend_known i.ahead r) (prepend_known w.ahead s) (bytes ++ run)) is t))

-- what stands before the commands of an input of which nothing was read
first_before : (r s : Option (List ℕ)) (w : Reading) (bytes : List ℕ) (runs : Bool) → IfTold (coming most_before fresh r) (coming most_before w s) (GivesBefore bytes runs) → IfSome r (λ input. IsBefore bytes (take most_before input))
first_before None s w bytes runs t = tt
first_before (Some x) None w bytes runs t = absurd t
first_before (Some x) (Some y) w bytes runs t = (runs, _, t)

pub is_before : (r s : Option (List ℕ)) (v w : Reading) (bytes : List ℕ) (runs : Bool) → v ≡ fresh → IfTold (coming most_before v r) (coming most_before w s) (GivesBefore bytes runs) → IfSome r (λ input. IsBefore bytes (take most_before input))
is_before r s v w bytes runs is t = first_before r s w bytes runs (subst (λ (i : Reading). IfTold (coming most_before i r) (coming most_before w s) (GivesBefore bytes runs)) is t)
