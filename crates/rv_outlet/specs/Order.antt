-- The order of the bytes between the two ends of an output. (own)
use Rattle.std.specs.Prelude.{◌≡◌, ◌⊎◌, ℕ, List, [], ◌∷◌, ◌++◌, Vec}
use Rattle.std.specs.Global.{Global}
use Rattle.rv_outlet.specs.declared.rule.Known.{Known}
use Rattle.rv_outlet.specs.declared.rule.Known.TheVariants.{Nothing, Put, Taken}

-- bytes that are put or taken at once
abbrev pub Piece : Type 0
Piece = Vec ℕ Global

-- the bytes of pieces, one behind another
abbrev pub all_bytes : List Piece → List ℕ
all_bytes [] = []
all_bytes (piece ∷ pieces) = piece.items ++ all_bytes pieces

-- the pieces that an end put or took
abbrev pub pieces_known : Known → List Piece
pieces_known Nothing = []
pieces_known (Put pieces) = pieces
pieces_known (Taken pieces) = pieces

-- what an end knows when it put or took one more
abbrev pub grown : Known → Piece → Known
grown Nothing piece = Nothing
grown (Put pieces) piece = Put (pieces ++ piece ∷ [])
grown (Taken pieces) piece = Taken (pieces ++ piece ∷ [])

-- The ends aren't parted, and nothing waits; or what was taken, and behind it what waits, is what was put.
abbrev pub AreInOrder : List Piece → List Known → Type 0
AreInOrder waiting ends =
    ((waiting ≡ []) × (ends ≡ Nothing ∷ []))
    ⊎ ((put : List Piece) × (taken : List Piece) × (ends ≡ Put put ∷ Taken taken ∷ []) × (put ≡ taken ++ waiting))
