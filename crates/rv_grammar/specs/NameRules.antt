-- How identifiers and names are read.
use Rattle.std.specs.Prelude.{if◌then◌else◌, [], Option, Ok, Err}
use Rattle.rv_lex.specs.declared.kind.Kind.TheVariants as k
use Rattle.rv_tree.specs.Names.{Identifier, Name}
use Rattle.rv_grammar.specs.Reading.{Parser, unexpected, ◌>>=◌, ◌>>◌, pure, sees, next, place, text, expect, more_after, optional}

unfoldable pub identifier : Parser Identifier
identifier = λ i. if sees k.Identifier i then Ok (record { at = place i; text = text i }, next i) else Err unexpected

unfoldable pub name : Parser Name
name = do
  first ← identifier
  more ← more_after k.Dot identifier []
  pure (record { first = first; more = more })

-- "end" [id] ";"
unfoldable pub end_name : Parser (Option Identifier)
end_name = do
  expect k.End
  name ← optional (sees k.Identifier) identifier
  expect k.Semicolon
  pure name
