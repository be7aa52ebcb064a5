-- What becomes of an input: each of its pieces is handed on once, and taken once, in order. (own)
use Rattle.std.specs.Prelude.{◌≡◌, ◌⊎◌, ℕ, ◌≤◌, Bool, true, false, List, [], ◌∷◌, ◌++◌, length, Option, Some, None, option_map, Result, Ok, Err}
use Rattle.std.specs.Io.KnownBytes.{Consumes, IsAtEnd}
use Rattle.std.specs.IoError.{error_kind}
use Rattle.std.specs.declared.io.Error.{Error}
use Rattle.std.specs.declared.io.ErrorKind.TheVariants.{UnexpectedEof}
use Rattle.crossbeam_channel.specs.Claims.{view}
use Rattle.rv_input.specs.Coming.{Reading}
use Rattle.rv_input.specs.Whole.{HasSections, IsPast}
use Rattle.rv_input.specs.declared.fault.InputFault.{InputFault}
use Rattle.rv_input.specs.declared.fault.InputFault.TheVariants as Faults
use Rattle.rv_feed.specs.Order.{IsOver, all_bytes, pieces_known}
use Rattle.rv_feed.specs.declared.feed.Came.{Came}
use Rattle.rv_feed.specs.declared.feed.Came.TheVariants.{Bytes, Nothing, Over}
use Rattle.rv_feed.specs.declared.pair.Feed.{Feed}
use Rattle.rv_feed.specs.declared.piece.Piece.{Piece}
use Rattle.rv_feed.specs.declared.piece.Piece.TheVariants as Pieces
use Rattle.rv_feed.specs.declared.pair.Speaker.{Speaker}

-- the pieces that were handed on so far
abbrev pub said : Speaker → List Piece
said speaker = pieces_known (view speaker.pass)

-- the pieces that were taken so far
abbrev pub heard : Feed → List Piece
heard feed = pieces_known (view feed.pass)

-- the next piece is taken; where none is, nothing is
abbrev pub Takes : {E : Type 0} → List Piece → List Piece → Result Piece E → Type 0
Takes old new (Ok piece) = new ≡ old ++ piece ∷ []
Takes old new (Err fault) = new ≡ old

-- Looks

-- the next piece is taken, and its bytes are put behind what was read ahead
abbrev pub Puts : List Piece → List Piece → Reading → Reading → Type 0
Puts heard heard' old new = (bytes : _) × (heard' ≡ heard ++ Pieces.Bytes bytes ∷ []) × (new ≡ record old { ahead = old.ahead ++ bytes.items })

-- nothing is taken or put
abbrev pub Waits : List Piece → List Piece → Reading → Reading → Type 0
Waits heard heard' old new = (heard' ≡ heard) × (new ≡ old)

-- the end of the input was taken, now or before, and nothing is put
pub record FindsEnd (heard heard' : List Piece) (old new : Reading) : Type 0 where
  pub taken : (heard' ≡ heard) ⊎ (heard' ≡ heard ++ Pieces.End ∷ [])
  pub over : IsOver heard'
  pub same : new ≡ old

-- a piece that was taken gives no bytes: it tells why a read failed, or memory for its bytes is refused
abbrev pub Fails : Piece → InputFault → Type 0
Fails (Pieces.Bytes bytes) fault = fault ≡ Faults.Memory
Fails (Pieces.Failed failure) fault = fault ≡ failure
Fails Pieces.End fault = ⊥

-- who reads the input is gone, and hasn't told its end
abbrev pub IsLost : InputFault → Type 0
IsLost fault = (error : Error) × (fault ≡ Faults.Io error) × (error_kind error ≡ UnexpectedEof)

-- a look at an input: the next piece is put there, and nothing else
abbrev pub Hears : List Piece → List Piece → Reading → Reading → Result Came InputFault → Type 0
Hears heard heard' old new (Ok Bytes) = Puts heard heard' old new
Hears heard heard' old new (Ok Nothing) = Waits heard heard' old new
Hears heard heard' old new (Ok Over) = FindsEnd heard heard' old new
Hears heard heard' old new (Err fault) =
    ((piece : Piece) × (heard' ≡ heard ++ piece ∷ []) × Fails piece fault × (new ≡ old)) ⊎ (IsLost fault × Waits heard heard' old new)

-- so many pieces were taken, one after another, and their bytes put behind what was read ahead, and nothing else
abbrev pub HearsOn : List Piece → List Piece → Reading → Reading → Type 0
HearsOn heard heard' old new = (pieces : List Piece) × (heard' ≡ heard ++ pieces) × (new ≡ record old { ahead = old.ahead ++ all_bytes pieces })

-- what the pieces are that were taken of a pipe which ends a run, where there is one
abbrev pub told : Option Feed → Option (List Piece)
told stop = option_map heard stop

-- the pipe has told its end
abbrev pub IsStopped : Option (List Piece) → Type 0
IsStopped None = ⊥
IsStopped (Some pieces) = IsOver pieces

-- What stands before the commands of an input has come whole, or no more is waited for: the input went past its greatest length,
-- is over, or was ended from outside.
abbrev pub SectionsCome : List Piece → Option (List Piece) → Reading → Type 0
SectionsCome heard told input = HasSections input.ahead ⊎ (IsPast input ⊎ (IsOver heard ⊎ IsStopped told))

-- Handing on

-- What a piece has of bytes that were read: all of them, or none where memory was refused.
abbrev pub IsCopy : List ℕ → Piece → Type 0
IsCopy bytes (Pieces.Bytes copy) = copy.items ≡ bytes
IsCopy bytes (Pieces.Failed fault) = fault ≡ Faults.Memory
IsCopy bytes Pieces.End = ⊥

-- the most bytes of a piece
abbrev pub most_of_piece : ℕ
most_of_piece = 4096

-- A read gives the next piece, whose bytes are those that were read; a failure has none of them. The end comes only at the end.
abbrev pub ReadsPiece : Option (List ℕ) → Option (List ℕ) → Piece → Type 0
ReadsPiece old new (Pieces.Bytes bytes) = Consumes old new bytes.items × (length bytes.items ≤ most_of_piece)
ReadsPiece old new (Pieces.Failed fault) = (lost : List ℕ) × (length lost ≤ most_of_piece) × Consumes old new lost
ReadsPiece old new Pieces.End = Consumes old new [] × IsAtEnd new

-- a piece is handed on, unless nobody waits for it any more
abbrev pub Says : List Piece → List Piece → Piece → Bool → Type 0
Says said said' piece true = said' ≡ said ++ piece ∷ []
Says said said' piece false = said' ≡ said

abbrev pub MaySay : List Piece → List Piece → Piece → Type 0
MaySay said said' piece = (is_said : Bool) × Says said said' piece is_said

-- what is read is handed on, in order, but for these last bytes
abbrev pub HandsOnBut : List ℕ → List Piece → List Piece → Option (List ℕ) → Option (List ℕ) → Type 0
HandsOnBut lost said said' old new = (handed : List Piece) × (said' ≡ said ++ handed) × Consumes old new (all_bytes handed ++ lost)

-- At most a piece of them is lost: where memory for it was refused, or nobody waits any more.
abbrev pub HandsOn : List Piece → List Piece → Option (List ℕ) → Option (List ℕ) → Type 0
HandsOn said said' old new = (lost : List ℕ) × (length lost ≤ most_of_piece) × HandsOnBut lost said said' old new
