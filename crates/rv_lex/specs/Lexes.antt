-- A text is its words, in order, with gaps between.
use Rattle.std.specs.Prelude.{◌≡◌, ◌≢◌, ℕ, ◌+◌, List, [], ◌∷◌, length, take, drop, map, Ok, Err}
use Rattle.rv_lex.specs.declared.kind.Kind.{Kind}
use Rattle.rv_lex.specs.declared.fault.WordFault.{WordFault}
use Rattle.rv_lex.specs.declared.fault.WordFault.TheVariants as fault
use Rattle.rv_lex.specs.declared.fault.LexFault.{LexFault}
use Rattle.rv_lex.specs.declared.fault.LexFault.TheVariants as lex
use Rattle.rv_lex.specs.declared.token.Token.{Token}
use Rattle.rv_lex.specs.Kinds.{Text}
use Rattle.rv_lex.specs.Characters.{gap_len}
use Rattle.rv_lex.specs.Front.{word}

-- a word of a text: its kind, its bytes, and the offset of the first of them
pub record Lexeme : Type 0 where
  pub kind : Kind
  pub text : Text
  pub place : ℕ

-- the word that a token stands for
abbrev pub lexeme : Token → Lexeme
lexeme t = record { kind = t.kind; text = t.text.now; place = t.place }

-- the words that tokens stand for
abbrev pub lexemes : List Token → List Lexeme
lexemes = map lexeme

-- what is left behind the separators and comments
abbrev pub past_gap : Text → Text
past_gap z = drop (gap_len z) z

-- the words lead from one place of the text to another: before each stands a gap, as long as it can be,
-- and each is the word at the front of what is left
abbrev pub Leads : ℕ → Text → List Lexeme → ℕ → Text → Type 0
Leads place z [] end rest = (place ≡ end) × (z ≡ rest)
Leads place z (t ∷ ts) end rest =
    (word (past_gap z) ≡ Ok (t.kind, length t.text)) × (t.text ≡ take (length t.text) (past_gap z))
    × (t.place ≡ place + gap_len z)
    × Leads (place + gap_len z + length t.text) (drop (length t.text) (past_gap z)) ts end rest

-- the words are those of the whole text: behind the last one stands a gap alone
pub record Lexes (z : Text) (ts : List Lexeme) : Type 0 where
  pub end : ℕ
  pub rest : Text
  pub words : Leads 0 z ts end rest
  pub gap : past_gap rest ≡ []

-- words lead to that place, behind a gap, and there is no word but that fault
pub record IsFirstFault (z : Text) (fault : WordFault) (place : ℕ) : Type 0 where
  pub before : List Lexeme
  pub end : ℕ
  pub rest : Text
  pub words : Leads 0 z before end rest
  pub some : past_gap rest ≢ []
  pub fault_is : word (past_gap rest) ≡ Err fault
  pub place_is : place ≡ end + gap_len rest

-- the fault is the text's first, at its place; no memory says nothing of the text
abbrev pub Refuses : Text → LexFault → Type 0
Refuses z (lex.BadCharacter place) = IsFirstFault z fault.BadCharacter place
Refuses z (lex.BadLiteral place) = IsFirstFault z fault.BadLiteral place
Refuses z (lex.BadIdentifier place) = IsFirstFault z fault.BadIdentifier place
Refuses z (lex.NotAscii place) = IsFirstFault z fault.NotAscii place
Refuses z lex.NoMemory = Unit {0}

-- no list of words is that of the text
abbrev pub HasNoWords : Text → Type 0
HasNoWords z = (ts : List Lexeme) → Lexes z ts → ⊥

-- memory ran out
abbrev pub IsNoMemory : LexFault → Type 0
IsNoMemory fault = fault ≡ lex.NoMemory
