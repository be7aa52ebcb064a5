use Rattle.std.proofs.Common.{List, ap, sym, ◌∙◌}
use Rattle.std.proofs.lemmas.Result.{IfOk-weaker}
use Rattle.rv_lex.specs.Lexes.{Lexeme}
use Rattle.rv_placed.specs.Places.{place_in}
use Rattle.rv_placed.proofs.Texts.{nowhere}
use Rattle.rv_placed.proofs.places.place_in.Goals as goal

pub returns-in-Ok : goal.returns-in-Ok
returns-in-Ok c = λ words lexes.
    c.place_among.ensures
    ∙ ap (λ (ws : List Lexeme). place_in c.args.unit.now c.args.object.now c.args.operation.now ws) (c.as_slice.ensures ∙ sym (c.in-Ok.ensures.only words lexes))

pub returns-in-Err : goal.returns-in-Err
returns-in-Err c =
    IfOk-weaker c.nowhere.result _ _
    (λ place h. nowhere c.args.text.now c.args.unit.now c.args.object.now c.args.operation.now c.in-Err.fault place c.in-Err.ensures.none h) c.nowhere.ensures
