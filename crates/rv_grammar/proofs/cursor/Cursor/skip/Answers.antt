use Rattle.std.proofs.Common.{◌∙◌, sym, ap, rules}
use Rattle.rv_grammar.specs.Reading.{next}
use Rattle.rv_grammar.proofs.Lists.{rest_is, next_none}
use Rattle.rv_grammar.proofs.cursor.Cursor.skip.Goals as goal

pub returns-then-not-is_empty : goal.returns-then-not-is_empty
returns-then-not-is_empty c = rest_is c.self.inside.tokens.now ∙ ap next c.self.view_is

pub returns-else-not-is_empty : goal.returns-else-not-is_empty
returns-else-not-is_empty c = sym c.self.view_is ∙ next_none _ (search rules) ∙ ap next c.self.view_is
