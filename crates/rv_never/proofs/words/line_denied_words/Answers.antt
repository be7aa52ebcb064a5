use Rattle.std.proofs.Common.{◌≡◌, subst}
use Rattle.std.specs.Prelude.{IfOk, string_bytes}
use Rattle.rv_shape.specs.Catalogue.{Target}
use Rattle.rv_never.specs.Telling as says
use Rattle.rv_never.proofs.words.line_denied_words.Goals as goal

pub returns : goal.returns
returns c =
    subst (λ (t : Target). IfOk c.line_words.result (λ text. string_bytes text ≡ says.line_words c.args.list.now c.args.clock c.args.line t)) c.handler_callee-callee.ensures c.line_words.ensures
