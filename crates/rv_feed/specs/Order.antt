-- The order of the pieces of an input between the two ends of a feed. (own)
use Rattle.std.specs.Prelude.{◌≡◌, ◌⊎◌, ℕ, Bool, true, false, List, [], ◌∷◌, ◌++◌}
use Rattle.rv_feed.specs.declared.piece.Piece.{Piece}
use Rattle.rv_feed.specs.declared.piece.Piece.TheVariants as Pieces
use Rattle.rv_feed.specs.declared.rule.Known.{Known}
use Rattle.rv_feed.specs.declared.rule.Known.TheVariants.{Nothing, Said, Heard}

-- the bytes of a piece; a failure has none, and the end neither
abbrev pub bytes_of : Piece → List ℕ
bytes_of (Pieces.Bytes bytes) = bytes.items
bytes_of (Pieces.Failed fault) = []
bytes_of Pieces.End = []

-- the bytes of pieces, one behind another
abbrev pub all_bytes : List Piece → List ℕ
all_bytes [] = []
all_bytes (piece ∷ pieces) = bytes_of piece ++ all_bytes pieces

-- a piece tells the end of the input
abbrev pub is_end : Piece → Bool
is_end Pieces.End = true
is_end piece = false

-- the last of these pieces tells it
abbrev pub is_over : List Piece → Bool
is_over [] = false
is_over (piece ∷ []) = is_end piece
is_over (piece ∷ next ∷ pieces) = is_over (next ∷ pieces)

-- the input is over
abbrev pub IsOver : List Piece → Type 0
IsOver pieces = is_over pieces ≡ true

-- the pieces that an end handed on or took
abbrev pub pieces_known : Known → List Piece
pieces_known Nothing = []
pieces_known (Said pieces) = pieces
pieces_known (Heard pieces) = pieces

-- what an end knows when it handed on or took one more
abbrev pub grown : Known → Piece → Known
grown Nothing piece = Nothing
grown (Said pieces) piece = Said (pieces ++ piece ∷ [])
grown (Heard pieces) piece = Heard (pieces ++ piece ∷ [])

-- The ends aren't parted, and nothing is under way; or what was taken, and behind it what is under way, is what was handed on.
abbrev pub AreInOrder : List Piece → List Known → Type 0
AreInOrder under_way ends =
    ((under_way ≡ []) × (ends ≡ Nothing ∷ []))
    ⊎ ((said : List Piece) × (heard : List Piece) × (ends ≡ Said said ∷ Heard heard ∷ []) × (said ≡ heard ++ under_way))
