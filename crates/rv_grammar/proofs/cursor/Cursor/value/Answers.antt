use Rattle.std.proofs.Common.{◌∙◌, sym, ap}
use Rattle.rv_grammar.specs.Reading.{value}
use Rattle.rv_grammar.proofs.Lists.{value_at, value_none}
use Rattle.rv_grammar.proofs.cursor.Cursor.value.Goals as goal

pub returns-in-Some : goal.returns-in-Some
returns-in-Some c = c.value.ensures ∙ value_at _ _ (sym c.in-Some.ensures.value) ∙ ap value c.self.view_is

pub returns-in-None : goal.returns-in-None
returns-in-None c = value_none _ (sym c.in-None.ensures.value) ∙ ap value c.self.view_is
