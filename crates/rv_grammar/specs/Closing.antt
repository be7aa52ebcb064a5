-- How what was read is closed.
use Rattle.rv_lex.specs.declared.kind.Kind.{Kind}
use Rattle.rv_lex.specs.declared.kind.Kind.TheVariants as k
use Rattle.rv_grammar.specs.Reading.{Parser, ◌>>◌, pure, expect}

-- "end" word ";", behind what was read
abbrev pub closed : {A : Type 0} → Kind → A → Parser A
closed word a = do
  expect k.End
  expect word
  expect k.Semicolon
  pure a
