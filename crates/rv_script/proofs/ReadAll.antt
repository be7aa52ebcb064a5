-- What was read is what the reader had, up to the limit.
use Rattle.std.proofs.Common.{◌≡◌, ℕ, ◌<◌, ◌≤◌, List, [], ◌++◌, Some, None, Option, length, take, sym, ap, ◌∙◌, arith, append-nil}
use Rattle.std.proofs.lemmas.List.{take_all, take_at}
use Rattle.std.specs.Prelude.{IfSome}
use Rattle.std.specs.Io.KnownBytes.{Consumes, IsAtEnd}

pub read_end : (limit : ℕ) (old mid new : Option (List ℕ)) (all buf : List ℕ) (n : ℕ) → Consumes old mid all → Consumes mid new (take n buf) → (n ≡ 0 → 0 < length buf → IsAtEnd new) → n < 1 → 0 < length buf → length all ≤ limit → IfSome old (λ input. all ≡ take limit input)
read_end limit None mid new all buf n p q e z b few = tt
read_end limit (Some xs) None new all buf n p q e z b few = absurd p
read_end limit (Some xs) (Some ys) None all buf n p q e z b few = absurd q
read_end limit (Some xs) (Some ys) (Some zs) all buf n p q e z b few =
    let none : n ≡ 0 = omega arith in
    let left : ys ≡ [] = q ∙ ap (λ (k : ℕ). take k buf ++ zs) none ∙ e none b in
    let same : xs ≡ all = p ∙ ap (λ (l : List ℕ). all ++ l) left ∙ append-nil all in
    rw same (sym (take_all limit all few))

pub read_full : (limit : ℕ) (old new : Option (List ℕ)) (all : List ℕ) → Consumes old new all → length all ≤ limit → limit ≤ length all → IfSome old (λ input. all ≡ take limit input)
read_full limit None new all p few many = tt
read_full limit (Some xs) None all p few many = absurd p
read_full limit (Some xs) (Some ys) all p few many = let long : length all ≡ limit = omega arith in rw p (sym (take_at all ys limit long))
