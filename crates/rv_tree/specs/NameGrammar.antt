-- name = id {"." id}, and lists of both (ISO/IEC 8652:2012, 2.3, 4.1).
use Rattle.std.specs.Prelude.{◌≡◌, List, ◌∷◌, Option}
use Rattle.rv_lex.specs.declared.kind.Kind.TheVariants as k
use Rattle.rv_lex.specs.Lexes.{Lexeme}
use Rattle.rv_tree.specs.Phrases.{Phrase, ◌⨾◌, Is, Maybe, Listed, EachAfter}
use Rattle.rv_tree.specs.Names.{Identifier, Name}

abbrev pub IsIdentifier : Identifier → Phrase
IsIdentifier i old new = (t : Lexeme) × (old ≡ t ∷ new) × (t.kind ≡ k.Identifier) × (t.place ≡ i.at) × (t.text ≡ i.text)

-- name = id {"." id}
abbrev pub IsName : Name → Phrase
IsName n = IsIdentifier n.first ⨾ EachAfter k.Dot IsIdentifier n.more

-- ids = id {"," id}
abbrev pub AreIdentifiers : List Identifier → Phrase
AreIdentifiers = Listed k.Comma IsIdentifier

-- name {"," name}
abbrev pub AreNames : List Name → Phrase
AreNames = Listed k.Comma IsName

-- "end" [id] ";"
abbrev pub IsEnd : Option Identifier → Phrase
IsEnd name = Is k.End ⨾ Maybe IsIdentifier name ⨾ Is k.Semicolon
