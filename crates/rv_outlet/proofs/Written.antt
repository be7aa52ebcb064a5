-- One write after another.
use Rattle.std.proofs.Common.{◌≡◌, ℕ, ◌+◌, List, [], ◌∷◌, ◌++◌, length, take, drop, Option, Some, None, refl, sym, ap, subst, ◌∙◌, append_assoc, append-nil, take-append-drop, arith}
use Rattle.std.specs.Prelude.{OnErr, OnOk, Result, Ok, Err}
use Rattle.std.proofs.lemmas.List.{take_all}
use Rattle.std.specs.Io.KnownBytes.{Appends, Keeps}
use lib.Seq.{take-add}
use Rattle.rv_outlet.specs.Order.{Piece, all_bytes}
use Rattle.rv_outlet.specs.Writing.{FailsAtLast, Writes, WritesFront, WritesTaken}

pub kept_none : (a b : Option (List ℕ)) (bytes : List ℕ) → Keeps a b → Appends a b (take 0 bytes)
kept_none None b bytes p = tt
kept_none (Some u) None bytes p = absurd p
kept_none (Some u) (Some v) bytes p = p ∙ sym (append-nil u)

pub nothing_yet : (a : Option (List ℕ)) → Appends a a []
nothing_yet None = tt
nothing_yet (Some u) = sym (append-nil u)

appends_both : (a b c : Option (List ℕ)) (xs ys : List ℕ) → Appends a b xs → Appends b c ys → Appends a c (xs ++ ys)
appends_both None b c xs ys p q = tt
appends_both (Some u) None c xs ys p q = absurd p
appends_both (Some u) (Some v) None xs ys p q = absurd q
appends_both (Some u) (Some v) (Some w) xs ys p q = q ∙ ap (λ (l : List ℕ). l ++ ys) p ∙ append_assoc u xs ys

-- so many bytes were written, and then more of the others
pub wrote_more : (a b c : Option (List ℕ)) (bytes : List ℕ) (done more : ℕ) → Appends a b (take done bytes) → Appends b c (take more (drop done bytes)) → Appends a c (take (done + more) bytes)
wrote_more a b c bytes done more p q =
    subst (λ (l : List ℕ). Appends a c l) (sym (take-add done more bytes)) (appends_both a b c (take done bytes) (take more (drop done bytes)) p q)

appends_kept : (a b c : Option (List ℕ)) (bytes : List ℕ) → Appends a b bytes → Keeps b c → Appends a c bytes
appends_kept a b c bytes p k = subst (λ (l : List ℕ). Appends a c l) (append-nil bytes) (appends_both a b c bytes [] p (kept_none b c [] k))

-- a write that fails leaves a front written
pub front_written : (a b : Option (List ℕ)) (bytes : List ℕ) (count : ℕ) → Appends a b (take count bytes) → WritesFront a b bytes
front_written a b bytes count p = (take count bytes, drop count bytes, sym (take-append-drop count bytes), p)

whole : (a b : Option (List ℕ)) (bytes : List ℕ) (count : ℕ) → count ≡ length bytes → Appends a b (take count bytes) → Appends a b bytes
whole a b bytes count all p = subst (λ (l : List ℕ). Appends a b l) (take_all count bytes (omega (arith, all))) p

pub all_written : (a b c : Option (List ℕ)) (bytes : List ℕ) (count : ℕ) → count ≡ length bytes → Appends a b (take count bytes) → Keeps b c → Appends a c bytes
all_written a b c bytes count all p k = appends_kept a b c bytes (whole a b bytes count all p) k

pub kept_front : (a b c : Option (List ℕ)) (bytes : List ℕ) (count : ℕ) → Appends a b (take count bytes) → Keeps b c → WritesFront a c bytes
kept_front a b c bytes count p k = front_written a c bytes count (appends_kept a b c (take count bytes) p k)

-- Pieces

bytes_both : (xs ys : List Piece) → all_bytes (xs ++ ys) ≡ all_bytes xs ++ all_bytes ys
bytes_both [] ys = refl
bytes_both (x ∷ xs) ys = ap (λ (l : List ℕ). x.items ++ l) (bytes_both xs ys) ∙ sym (append_assoc x.items (all_bytes xs) (all_bytes ys))

-- nothing was taken
pub none_taken : (taken taken' : List Piece) (a : Option (List ℕ)) → taken' ≡ taken → WritesTaken taken taken' a a
none_taken taken taken' a same = ([], same ∙ sym (append-nil taken), nothing_yet a)

-- a piece was taken and written
pub one_taken : (taken taken' : List Piece) (piece : Piece) (a b : Option (List ℕ)) → taken' ≡ taken ++ piece ∷ [] → Appends a b piece.items → WritesTaken taken taken' a b
one_taken taken taken' piece a b is p = (piece ∷ [], is, subst (λ (l : List ℕ). Appends a b l) (sym (append-nil piece.items)) p)

-- of a piece that was taken a front was written
pub one_failed : (taken taken' : List Piece) (piece : Piece) (a b : Option (List ℕ)) → taken' ≡ taken ++ piece ∷ [] → WritesFront a b piece.items → FailsAtLast taken taken' a b
one_failed taken taken' piece a b is p = (taken, a, none_taken taken taken a refl, (piece, is, p))

-- and then more
pub taken_more : (taken between last : List Piece) (a b c : Option (List ℕ)) → WritesTaken taken between a b → WritesTaken between last b c → WritesTaken taken last a c
taken_more taken between last a b c (xs, is, p) (ys, is_more, q) = (
  xs ++ ys,
  is_more ∙ (ap (λ (l : List Piece). l ++ ys) is ∙ append_assoc taken xs ys),
  subst (λ (l : List ℕ). Appends a c l) (sym (bytes_both xs ys)) (appends_both a b c (all_bytes xs) (all_bytes ys) p q),
)

pub failed_last : (taken between last : List Piece) (a b c : Option (List ℕ)) → WritesTaken taken between a b → FailsAtLast between last b c → FailsAtLast taken last a c
failed_last taken between last a b c p (until, mid, q, fails) = (until, mid, taken_more taken between until a b mid p q, fails)

-- a piece was taken, and written or not
pub next_written : {E : Type 0} (taken taken' : List Piece) (piece : Piece) (bytes : List ℕ) (a b : Option (List ℕ)) (result : Result (Unit {0}) E) → taken' ≡ taken ++ piece ∷ [] → bytes ≡ piece.items
    → OnOk result (Appends a b bytes) → OnErr result (WritesFront a b bytes) → Writes taken taken' a b result
next_written taken taken' piece bytes a b (Ok x) is same whole front = one_taken taken taken' piece a b is (subst (λ (l : List ℕ). Appends a b l) same whole)
next_written taken taken' piece bytes a b (Err e) is same whole front = one_failed taken taken' piece a b is (subst (λ (l : List ℕ). WritesFront a b l) same front)
