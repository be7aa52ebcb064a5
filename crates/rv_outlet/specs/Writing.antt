-- What becomes of an output: what is put there is taken and written, in order. (own)
use Rattle.std.specs.Prelude.{◌≡◌, ℕ, Bool, true, false, List, [], ◌∷◌, ◌++◌, Option, Some, None, Result, Ok, Err}
use Rattle.std.specs.Io.KnownBytes.{Appends}
use Rattle.rv_outlet.specs.Order.{Piece, all_bytes}

-- bytes are put there as one piece, or nothing is
abbrev pub Puts : List Piece → List Piece → List ℕ → Bool → Type 0
Puts put put' bytes true = (piece : Piece) × (piece.items ≡ bytes) × (put' ≡ put ++ piece ∷ [])
Puts put put' bytes false = put' ≡ put

-- the next piece is taken, if one is
abbrev pub Takes : List Piece → List Piece → Option Piece → Type 0
Takes taken taken' None = taken' ≡ taken
Takes taken taken' (Some piece) = taken' ≡ taken ++ piece ∷ []

-- a front of bytes is written behind what was
abbrev pub WritesFront : Option (List ℕ) → Option (List ℕ) → List ℕ → Type 0
WritesFront old new bytes = (front : List ℕ) × (rest : List ℕ) × (bytes ≡ front ++ rest) × Appends old new front

-- what is taken is written, behind what was
abbrev pub WritesTaken : List Piece → List Piece → Option (List ℕ) → Option (List ℕ) → Type 0
WritesTaken taken taken' old new = (pieces : List Piece) × (taken' ≡ taken ++ pieces) × Appends old new (all_bytes pieces)

-- what is taken is written, but of the last piece a front alone
abbrev pub FailsAtLast : List Piece → List Piece → Option (List ℕ) → Option (List ℕ) → Type 0
FailsAtLast taken taken' old new =
    (between : List Piece) × (mid : Option (List ℕ)) × WritesTaken taken between old mid × ((last : Piece) × (taken' ≡ between ++ last ∷ []) × WritesFront mid new last.items)

-- what is taken is written; where a write fails, of the last piece a front
abbrev pub Writes : {E : Type 0} → List Piece → List Piece → Option (List ℕ) → Option (List ℕ) → Result (Unit {0}) E → Type 0
Writes taken taken' old new (Ok x) = WritesTaken taken taken' old new
Writes taken taken' old new (Err error) = FailsAtLast taken taken' old new
