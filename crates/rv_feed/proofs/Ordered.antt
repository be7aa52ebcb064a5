-- Each step on the channel keeps the order of what was read, and what is read is handed on.
use Rattle.std.proofs.Common.{◌≡◌, ℕ, ◌≤◌, zero, suc, List, [], ◌∷◌, ◌++◌, Bool, true, false, Option, Some, None, inl, inr, refl, sym, ap, ◌∙◌, subst, append_assoc, append-nil, arith, Vec, Global}
use Rattle.std.specs.Prelude.{slice_set}
use Rattle.std.specs.Io.KnownBytes.{Consumes}
use mathlib.Core.Option.{some, none}
use lib.ListN.{get_elem?}
use Rattle.crossbeam_channel.specs.Fifo.{Pushes}
use Rattle.rv_input.specs.declared.fault.InputFault.{InputFault}
use Rattle.rv_feed.specs.Hearing.{HandsOn, HandsOnBut, ReadsPiece, Says, most_of_piece}
use Rattle.rv_feed.specs.Order.{AreInOrder, IsOver, all_bytes, bytes_of, grown, is_end, is_over, pieces_known}
use Rattle.rv_feed.specs.declared.piece.Piece.{Piece}
use Rattle.rv_feed.specs.declared.piece.Piece.TheVariants as Pieces
use Rattle.rv_feed.specs.declared.rule.Known.{Known}
use Rattle.rv_feed.specs.declared.rule.Known.TheVariants.{Nothing, Said, Heard}

same_said : (a b : List Piece) → some (Said a) ≡ some (Said b) → a ≡ b
same_said a b e = cc e

not_fresh : (s : List Piece) → some Nothing ≡ some (Said s) → ⊥
not_fresh s e = cc e

not_heard : (h s : List Piece) → some (Heard h) ≡ some (Said s) → ⊥
not_heard h s e = cc e

no_view : (s : List Piece) → none ≡ some (Said s) → ⊥
no_view s e = cc e

-- before the ends are parted nobody has said anything
alone : (s : List Piece) (pass : ℕ) → get_elem? (Nothing ∷ []) pass ≡ some (Said s) → ⊥
alone s zero at = not_fresh s at
alone s (suc n) at = no_view s at

-- who says is the first of the ends
is_first : (said heard s : List Piece) (pass : ℕ) → get_elem? (Said said ∷ Heard heard ∷ []) pass ≡ some (Said s) → (pass ≡ 0) × (said ≡ s)
is_first said heard s zero at = (refl, same_said said s at)
is_first said heard s (suc zero) at = absurd (not_heard heard s at)
is_first said heard s (suc (suc n)) at = absurd (no_view s at)

-- what is under way grows by what is handed on
grows : (s said heard under_way : List Piece) (piece : Piece) → said ≡ s → said ≡ heard ++ under_way → s ++ piece ∷ [] ≡ heard ++ (under_way ++ piece ∷ [])
grows s said heard under_way piece same is = ap (λ (l : List Piece). l ++ piece ∷ []) (sym same ∙ is) ∙ append_assoc heard under_way (piece ∷ [])

first_set : (views : List Known) (pass : ℕ) (said heard s : List Piece) → views ≡ Said said ∷ Heard heard ∷ [] → pass ≡ 0
    → slice_set views pass (Said s) ≡ Said s ∷ Heard heard ∷ []
first_set views pass said heard s are first =
    ap (λ (vs : List Known). slice_set vs pass (Said s)) are ∙ ap (λ (n : ℕ). slice_set (Said said ∷ Heard heard ∷ []) n (Said s)) first

says_more : (n pass : ℕ) (s : List Piece) (piece : Piece) → Pushes AreInOrder n pass (Said s) piece (λ w. w ≡ Said (s ++ piece ∷ []))
says_more n pass s piece items views less holds at = by_rule holds
  where
    by_parted : (said heard : List Piece) → views ≡ Said said ∷ Heard heard ∷ [] → said ≡ heard ++ items
        → (w : Known) × AreInOrder (items ++ piece ∷ []) (slice_set views pass w) × (w ≡ Said (s ++ piece ∷ []))
    by_parted said heard are is =
        let first = is_first said heard s pass (subst (λ (vs : List Known). get_elem? vs pass ≡ some (Said s)) are at) in (
          Said (s ++ piece ∷ []),
          inr (s ++ piece ∷ [], heard, first_set views pass said heard (s ++ piece ∷ []) are first.0, grows s said heard items piece first.1 is),
          refl,
        )

    by_rule : AreInOrder items views → (w : Known) × AreInOrder (items ++ piece ∷ []) (slice_set views pass w) × (w ≡ Said (s ++ piece ∷ []))
    by_rule (inl fresh) = absurd (alone s pass (subst (λ (vs : List Known). get_elem? vs pass ≡ some (Said s)) fresh.1 at))
    by_rule (inr (said, heard, are, is)) = by_parted said heard are is

-- a piece may be handed on by the end that says
pub handed : (n pass : ℕ) (view : Known) (piece : Piece) → view ≡ Said (pieces_known view) → Pushes AreInOrder n pass view piece (λ w. w ≡ grown view piece)
handed n pass view piece says = subst (λ (v : Known). Pushes AreInOrder n pass v piece (λ w. w ≡ grown v piece)) (sym says) (says_more n pass (pieces_known view) piece)

-- What is read is handed on

none_lost : 0 ≤ most_of_piece
none_lost = omega arith

-- bytes were read, and handed on
pub hands_bytes : (before after : List Piece) (old new : Option (List ℕ)) (bytes : Vec ℕ Global) → ReadsPiece old new (Pieces.Bytes bytes)
    → Says before after (Pieces.Bytes bytes) true → HandsOnBut [] before after old new
hands_bytes before after old new bytes reads says =
    (Pieces.Bytes bytes ∷ [], says, subst (λ (l : List ℕ). Consumes old new l) (sym (append-nil (bytes.items ++ []) ∙ append-nil bytes.items)) reads.0)

-- unless nobody waits for them
pub hands_read : (before after : List Piece) (old new : Option (List ℕ)) (bytes : Vec ℕ Global) (is_said : Bool) → ReadsPiece old new (Pieces.Bytes bytes)
    → Says before after (Pieces.Bytes bytes) is_said → HandsOn before after old new
hands_read before after old new bytes true reads says = ([], none_lost, hands_bytes before after old new bytes reads says)
hands_read before after old new bytes false reads says = (bytes.items, reads.1, ([], says ∙ sym (append-nil before), reads.0))

-- a read failed
pub hands_fault : (before after : List Piece) (old new : Option (List ℕ)) (fault : InputFault) (is_said : Bool) → ReadsPiece old new (Pieces.Failed fault)
    → Says before after (Pieces.Failed fault) is_said → HandsOn before after old new
hands_fault before after old new fault true (lost, few, reads) says = (lost, few, (Pieces.Failed fault ∷ [], says, reads))
hands_fault before after old new fault false (lost, few, reads) says = (lost, few, ([], says ∙ sym (append-nil before), reads))

-- the end was read
pub hands_end : (before after : List Piece) (old new : Option (List ℕ)) (is_said : Bool) → ReadsPiece old new Pieces.End
    → Says before after Pieces.End is_said → HandsOn before after old new
hands_end before after old new true reads says = ([], none_lost, (Pieces.End ∷ [], says, reads.0))
hands_end before after old new false reads says = ([], none_lost, ([], says ∙ sym (append-nil before), reads.0))

-- What is last

-- the last piece tells whether the input is over
pub over_by : (before : List Piece) (piece : Piece) → is_over (before ++ piece ∷ []) ≡ is_end piece
over_by [] piece = refl
over_by (x ∷ []) piece = refl
over_by (x ∷ y ∷ before) piece = over_by (y ∷ before) piece

-- behind the end it is
pub over_behind : (before after : List Piece) (piece : Piece) → after ≡ before ++ piece ∷ [] → piece ≡ Pieces.End → IsOver after
over_behind before after piece is end = ap is_over is ∙ (over_by before piece ∙ ap is_end end)

not_true : (b : Bool) → b ≡ true → b ≡ false → ⊥
not_true b is isn't = absurd (cc (is, isn't))

-- behind bytes or a failure that were handed on it isn't
pub not_over_by_bytes : (before after : List Piece) (bytes : Vec ℕ Global) → Says before after (Pieces.Bytes bytes) true → IsOver after → ⊥
not_over_by_bytes before after bytes says over = not_true (is_over after) over (ap is_over says ∙ over_by before (Pieces.Bytes bytes))

not_over_by_fault : (before after : List Piece) (fault : InputFault) → Says before after (Pieces.Failed fault) true → IsOver after → ⊥
not_over_by_fault before after fault says over = not_true (is_over after) over (ap is_over says ∙ over_by before (Pieces.Failed fault))

-- nor where nothing was
still_going : (before after : List Piece) → after ≡ before → (IsOver before → ⊥) → IsOver after → ⊥
still_going before after same going over = going (subst (λ (l : List Piece). IsOver l) same over)

pub ends_not_by_bytes : (before after : List Piece) (bytes : Vec ℕ Global) (is_said : Bool) (P : Type 0) → Says before after (Pieces.Bytes bytes) is_said → (IsOver before → ⊥) → IsOver after → P
ends_not_by_bytes before after bytes true P says going over = absurd (not_over_by_bytes before after bytes says over)
ends_not_by_bytes before after bytes false P says going over = absurd (still_going before after says going over)

pub ends_not_by_fault : (before after : List Piece) (fault : InputFault) (is_said : Bool) (P : Type 0) → Says before after (Pieces.Failed fault) is_said → (IsOver before → ⊥) → IsOver after → P
ends_not_by_fault before after fault true P says going over = absurd (not_over_by_fault before after fault says over)
ends_not_by_fault before after fault false P says going over = absurd (still_going before after says going over)

pub bytes_both : (xs ys : List Piece) → all_bytes (xs ++ ys) ≡ all_bytes xs ++ all_bytes ys
bytes_both [] ys = refl
bytes_both (x ∷ xs) ys = ap (λ (l : List ℕ). bytes_of x ++ l) (bytes_both xs ys) ∙ sym (append_assoc (bytes_of x) (all_bytes xs) (all_bytes ys))

consumed_both : (a b c : Option (List ℕ)) (xs ys : List ℕ) → Consumes a b xs → Consumes b c ys → Consumes a c (xs ++ ys)
consumed_both None b c xs ys p q = tt
consumed_both (Some x) None c xs ys p q = absurd p
consumed_both (Some x) (Some y) None xs ys p q = absurd q
consumed_both (Some x) (Some y) (Some z) xs ys p q = p ∙ (ap (λ (l : List ℕ). xs ++ l) q ∙ sym (append_assoc xs ys z))

-- nothing yet
pub hands_none : (before : List Piece) (left : Option (List ℕ)) → HandsOnBut [] before before left left
hands_none before None = ([], sym (append-nil before), tt)
hands_none before (Some left) = ([], sym (append-nil before), refl)

-- what was handed on whole, and then more
pub hands_more : (first mid last : Option (List ℕ)) (before between after : List Piece) (lost : List ℕ) → HandsOnBut [] before between first mid
    → HandsOnBut lost between after mid last → HandsOnBut lost before after first last
hands_more first mid last before between after lost (xs, says, reads) (ys, says_more, more) = (
  xs ++ ys,
  says_more ∙ (ap (λ (l : List Piece). l ++ ys) says ∙ append_assoc before xs ys),
  subst (λ (l : List ℕ). Consumes first last l) whole (consumed_both first mid last (all_bytes xs ++ []) (all_bytes ys ++ lost) reads more),
)
  where
    whole : (all_bytes xs ++ []) ++ (all_bytes ys ++ lost) ≡ all_bytes (xs ++ ys) ++ lost
    whole =
        ap (λ (l : List ℕ). l ++ (all_bytes ys ++ lost)) (append-nil (all_bytes xs))
        ∙ (sym (append_assoc (all_bytes xs) (all_bytes ys) lost) ∙ ap (λ (l : List ℕ). l ++ lost) (sym (bytes_both xs ys)))

-- and then the last
pub hands_last : (first mid last : Option (List ℕ)) (before between after : List Piece) → HandsOnBut [] before between first mid → HandsOn between after mid last
    → HandsOn before after first last
hands_last first mid last before between after hands (lost, few, more) = (lost, few, hands_more first mid last before between after lost hands more)
