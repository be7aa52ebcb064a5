use Rattle.std.proofs.Common.{◌∙◌, sym, ap}
use Rattle.rv_grammar.specs.Reading.{text}
use Rattle.rv_grammar.proofs.Lists.{text_at, text_none}
use Rattle.rv_grammar.proofs.cursor.Cursor.text.Goals as goal

pub returns-in-Some : goal.returns-in-Some
returns-in-Some c = text_at _ _ (sym c.in-Some.ensures.value) ∙ ap text c.self.view_is

pub returns-in-None : goal.returns-in-None
returns-in-None c = text_none _ (sym c.in-None.ensures.value) ∙ ap text c.self.view_is
