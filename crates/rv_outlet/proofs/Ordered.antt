-- Each step on the queue keeps the order of what was put.
use Rattle.std.proofs.Common.{◌≡◌, ℕ, zero, suc, List, [], ◌∷◌, ◌++◌, Bool, true, false, inl, inr, refl, sym, ap, ◌∙◌, subst, append_assoc, append-nil, arith, length, take, true≢false}
use Rattle.std.specs.Prelude.{slice_set}
use Rattle.std.proofs.lemmas.List.{take_all}
use Rattle.rv_outlet.specs.Writing.{Puts}
use mathlib.Core.Option.{some, none}
use lib.ListN.{get_elem?}
use Rattle.crossbeam_queue.specs.Fifo.{Pushes}
use Rattle.rv_outlet.specs.Order.{AreInOrder, Piece, all_bytes, grown, pieces_known}
use Rattle.rv_outlet.specs.declared.rule.Known.{Known}
use Rattle.rv_outlet.specs.declared.rule.Known.TheVariants.{Nothing, Put, Taken}

same_put : (a b : List Piece) → some (Put a) ≡ some (Put b) → a ≡ b
same_put a b e = cc e

not_fresh : (s : List Piece) → some Nothing ≡ some (Put s) → ⊥
not_fresh s e = cc e

not_taken : (h s : List Piece) → some (Taken h) ≡ some (Put s) → ⊥
not_taken h s e = cc e

no_view : (s : List Piece) → none ≡ some (Put s) → ⊥
no_view s e = cc e

-- before the ends are parted nothing was put
alone : (s : List Piece) (pass : ℕ) → get_elem? (Nothing ∷ []) pass ≡ some (Put s) → ⊥
alone s zero at = not_fresh s at
alone s (suc n) at = no_view s at

-- who puts is the first of the ends
is_first : (put taken s : List Piece) (pass : ℕ) → get_elem? (Put put ∷ Taken taken ∷ []) pass ≡ some (Put s) → (pass ≡ 0) × (put ≡ s)
is_first put taken s zero at = (refl, same_put put s at)
is_first put taken s (suc zero) at = absurd (not_taken taken s at)
is_first put taken s (suc (suc n)) at = absurd (no_view s at)

-- what waits grows by what is put
grows : (s put taken waiting : List Piece) (piece : Piece) → put ≡ s → put ≡ taken ++ waiting → s ++ piece ∷ [] ≡ taken ++ (waiting ++ piece ∷ [])
grows s put taken waiting piece same is = ap (λ (l : List Piece). l ++ piece ∷ []) (sym same ∙ is) ∙ append_assoc taken waiting (piece ∷ [])

first_set : (views : List Known) (pass : ℕ) (put taken s : List Piece) → views ≡ Put put ∷ Taken taken ∷ [] → pass ≡ 0
    → slice_set views pass (Put s) ≡ Put s ∷ Taken taken ∷ []
first_set views pass put taken s are first =
    ap (λ (vs : List Known). slice_set vs pass (Put s)) are ∙ ap (λ (n : ℕ). slice_set (Put put ∷ Taken taken ∷ []) n (Put s)) first

puts_more : (n pass : ℕ) (s : List Piece) (piece : Piece) → Pushes AreInOrder n pass (Put s) piece (λ w. w ≡ Put (s ++ piece ∷ []))
puts_more n pass s piece items views less holds at = by_rule holds
  where
    by_parted : (put taken : List Piece) → views ≡ Put put ∷ Taken taken ∷ [] → put ≡ taken ++ items
        → (w : Known) × AreInOrder (items ++ piece ∷ []) (slice_set views pass w) × (w ≡ Put (s ++ piece ∷ []))
    by_parted put taken are is =
        let first = is_first put taken s pass (subst (λ (vs : List Known). get_elem? vs pass ≡ some (Put s)) are at) in (
          Put (s ++ piece ∷ []),
          inr (s ++ piece ∷ [], taken, first_set views pass put taken (s ++ piece ∷ []) are first.0, grows s put taken items piece first.1 is),
          refl,
        )

    by_rule : AreInOrder items views → (w : Known) × AreInOrder (items ++ piece ∷ []) (slice_set views pass w) × (w ≡ Put (s ++ piece ∷ []))
    by_rule (inl fresh) = absurd (alone s pass (subst (λ (vs : List Known). get_elem? vs pass ≡ some (Put s)) fresh.1 at))
    by_rule (inr (put, taken, are, is)) = by_parted put taken are is

-- a piece may be put by the end that puts
pub may_put : (n pass : ℕ) (view : Known) (piece : Piece) → view ≡ Put (pieces_known view) → Pushes AreInOrder n pass view piece (λ w. w ≡ grown view piece)
may_put n pass view piece puts = subst (λ (v : Known). Pushes AreInOrder n pass v piece (λ w. w ≡ grown v piece)) (sym puts) (puts_more n pass (pieces_known view) piece)

one_bytes : (pieces : List Piece) (piece : Piece) → all_bytes (pieces ++ piece ∷ []) ≡ all_bytes pieces ++ piece.items
one_bytes [] piece = append-nil piece.items
one_bytes (first ∷ pieces) piece =
    ap (λ (l : List ℕ). first.items ++ l) (one_bytes pieces piece) ∙ sym (append_assoc first.items (all_bytes pieces) piece.items)

-- what is put whole
pub put_whole : (put put' : List Piece) (bytes : List ℕ) (done : Bool) → Puts put put' bytes done → done ≡ true → all_bytes put' ≡ all_bytes put ++ take (length bytes) bytes
put_whole put put' bytes true (piece, is, grows) e =
    ap all_bytes grows ∙ (one_bytes put piece ∙ ap (λ (l : List ℕ). all_bytes put ++ l) (is ∙ sym (take_all (length bytes) bytes (omega arith))))
put_whole put put' bytes false p e = absurd (true≢false (sym e))

-- or not at all
pub put_none : (put put' : List Piece) (bytes : List ℕ) (done : Bool) → Puts put put' bytes done → done ≡ false → all_bytes put' ≡ all_bytes put
put_none put put' bytes true p e = absurd (true≢false e)
put_none put put' bytes false same e = ap all_bytes same
