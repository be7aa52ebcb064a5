use Rattle.std.proofs.Common.{◌∙◌, sym, ap}
use Rattle.rv_grammar.specs.Reading.{sees, same_kind}
use Rattle.rv_grammar.proofs.Lists.{sees_at, sees_none}
use Rattle.rv_grammar.proofs.cursor.Cursor.sees.Goals as goal

pub returns-in-Some : goal.returns-in-Some
unfolding same_kind
returns-in-Some c = c.eq.ensures ∙ sees_at c.args.what _ _ (sym c.in-Some.ensures.value) ∙ ap (sees c.args.what) c.self.view_is

pub returns-in-None : goal.returns-in-None
returns-in-None c = sees_none c.args.what _ (sym c.in-None.ensures.value) ∙ ap (sees c.args.what) c.self.view_is
