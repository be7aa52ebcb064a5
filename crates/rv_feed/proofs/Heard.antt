-- What was heard of an input, piece by piece.
use Rattle.std.proofs.Common.{◌≡◌, ◌∙◌, ℕ, List, [], ◌∷◌, ◌++◌, Ok, inl, inr, sym, ap, subst, append_assoc, append-nil}
use Rattle.std.specs.Prelude.{◌⊎◌}
use Rattle.rv_input.specs.Coming.{Reading}
use Rattle.rv_input.specs.Whole.{IsAtLine}
use Rattle.rv_input.specs.declared.whole.Looked.{Looked}
use Rattle.rv_input.proofs.WholeLines.{begins_still}
use Rattle.rv_feed.specs.Hearing.{Hears, HearsOn}
use Rattle.rv_feed.specs.Order.{all_bytes}
use Rattle.rv_feed.specs.declared.feed.Came.{Came}
use Rattle.rv_feed.specs.declared.feed.Came.TheVariants.{Bytes, Nothing, Over}
use Rattle.rv_feed.specs.declared.piece.Piece.{Piece}
use Rattle.rv_feed.specs.declared.piece.Piece.TheVariants as Pieces
use Rattle.rv_feed.proofs.Ordered.{bytes_both}

nothing_put : (old new : Reading) → new ≡ old → new ≡ record old { ahead = old.ahead ++ [] }
nothing_put old new same = same ∙ ap (λ (l : List ℕ). record old { ahead = l }) (sym (append-nil old.ahead))

-- nothing was heard yet
pub hears_none : (heard heard' : List Piece) (old new : Reading) → heard' ≡ heard → new ≡ old → HearsOn heard heard' old new
hears_none heard heard' old new same still = ([], same ∙ sym (append-nil heard), nothing_put old new still)

-- a look
pub hears_one : (heard heard' : List Piece) (old new : Reading) (came : Came) → Hears heard heard' old new (Ok came) → HearsOn heard heard' old new
hears_one heard heard' old new Bytes (bytes, taken, put) = (
  Pieces.Bytes bytes ∷ [],
  taken,
  put ∙ ap (λ (l : List ℕ). record old { ahead = old.ahead ++ l }) (sym (append-nil bytes.items)),
)
hears_one heard heard' old new Nothing (taken, same) = hears_none heard heard' old new taken same
hears_one heard heard' old new Over found = by_taken found.taken
  where
    by_taken : (heard' ≡ heard) ⊎ (heard' ≡ heard ++ Pieces.End ∷ []) → HearsOn heard heard' old new
    by_taken (inl same) = hears_none heard heard' old new same found.same
    by_taken (inr taken) = (Pieces.End ∷ [], taken, nothing_put old new found.same)

-- one look behind others
pub hears_on : (heard between heard' : List Piece) (old mid new : Reading) → HearsOn heard between old mid → HearsOn between heard' mid new → HearsOn heard heard' old new
hears_on heard between heard' old mid new (xs, first, put) (ys, second, more) = (
  xs ++ ys,
  second ∙ (ap (λ (l : List Piece). l ++ ys) first ∙ append_assoc heard xs ys),
  more
      ∙ (ap (λ (r : Reading). record r { ahead = r.ahead ++ all_bytes ys }) put
      ∙ ap (λ (l : List ℕ). record old { ahead = l }) (append_assoc old.ahead (all_bytes xs) (all_bytes ys) ∙ ap (λ (l : List ℕ). old.ahead ++ l) (sym (bytes_both xs ys)))),
)

-- more that comes stands behind what was looked at
pub at_still : (looked : Looked) (heard heard' : List Piece) (old new : Reading) → HearsOn heard heard' old new → IsAtLine looked old.ahead → IsAtLine looked new.ahead
at_still looked heard heard' old new (pieces, taken, put) at =
    subst (λ (r : Reading). IsAtLine looked r.ahead) (sym put) (begins_still looked.line old.ahead (all_bytes pieces) at)
