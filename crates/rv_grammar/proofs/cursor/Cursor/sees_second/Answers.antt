use Rattle.std.proofs.Common.{◌∙◌, ap, List}
use Rattle.rv_lex.specs.Lexes.{Lexeme}
use Rattle.rv_grammar.specs.Reading.{sees, next, same_kind}
use Rattle.rv_grammar.proofs.Lists.{sees_second_at, sees_second_none}
use Rattle.rv_grammar.proofs.cursor.Cursor.sees_second.Goals as goal

pub returns-in-Some : goal.returns-in-Some
unfolding same_kind
returns-in-Some c = c.eq.ensures ∙ sees_second_at c.args.what _ _ c.in-Some.ensures.lookup.3.0 c.in-Some.ensures.lookup.1 ∙ ap (λ (ts : List Lexeme). sees c.args.what (next ts)) c.self.view_is

pub returns-in-None : goal.returns-in-None
returns-in-None c = sees_second_none c.args.what _ c.in-None.ensures.lookup.3 ∙ ap (λ (ts : List Lexeme). sees c.args.what (next ts)) c.self.view_is
