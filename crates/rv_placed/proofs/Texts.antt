-- Where the words of a text have a body.
use Rattle.std.proofs.Common.{◌≡◌, ℕ, List, ◌⊎◌, inl, inr}
use Rattle.std.specs.Prelude.{Option, None}
use Rattle.rv_lex.specs.Lexes.{HasNoWords, IsNoMemory, Lexeme, Lexes}
use Rattle.rv_lex.specs.declared.fault.LexFault.{LexFault}
use Rattle.rv_placed.specs.Places.{place_in}

-- a text without words has it nowhere
pub nowhere : (text unit object operation : List ℕ) (fault : LexFault) (place : Option ℕ) → IsNoMemory fault ⊎ HasNoWords text → (place ≡ None) × (IsNoMemory fault → ⊥) →
    (words : List Lexeme) → Lexes text words → place ≡ place_in unit object operation words
nowhere text unit object operation fault place (inl short) h words lexes = absurd (h.1 short)
nowhere text unit object operation fault place (inr wordless) h words lexes = absurd (wordless words lexes)
