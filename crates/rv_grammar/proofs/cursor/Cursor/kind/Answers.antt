use Rattle.std.proofs.Common.{◌∙◌, sym, ap}
use Rattle.rv_grammar.specs.Reading.{kind}
use Rattle.rv_grammar.proofs.Lists.{kind_at, kind_none}
use Rattle.rv_grammar.proofs.cursor.Cursor.kind.Goals as goal

pub returns-in-Some : goal.returns-in-Some
returns-in-Some c = kind_at _ _ (sym c.in-Some.ensures.value) ∙ ap kind c.self.view_is

pub returns-in-None : goal.returns-in-None
returns-in-None c = kind_none _ (sym c.in-None.ensures.value) ∙ ap kind c.self.view_is
