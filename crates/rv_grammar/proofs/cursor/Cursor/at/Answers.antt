use Rattle.std.proofs.Common.{◌∙◌, sym, ap}
use Rattle.rv_grammar.specs.Reading.{place}
use Rattle.rv_grammar.proofs.Lists.{at_token, at_none}
use Rattle.rv_grammar.proofs.cursor.Cursor.at.Goals as goal

pub returns-in-Some : goal.returns-in-Some
returns-in-Some c = at_token _ _ (sym c.in-Some.ensures.value) ∙ ap place c.self.view_is

pub returns-in-None : goal.returns-in-None
returns-in-None c = at_none _ (sym c.in-None.ensures.value) ∙ ap place c.self.view_is
