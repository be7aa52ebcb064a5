use Rattle.std.proofs.Common.{ℕ, suc, Option, length, ap, ◌∙◌}
use Rattle.std.proofs.lemmas.Result.{on_ok_weaker}
use Rattle.std.specs.Option.{option_map}
use Rattle.rv_event.specs.Lent.{whole}
use Rattle.rv_event.specs.declared.entry.Body.{Body}
use Rattle.rv_lasting.specs.Lasting.{since}
use Rattle.rv_lasting.specs.declared.track.Begun.{Begun}
use Rattle.rv_export.specs.Exports.{last_left, left_by, newer}
use Rattle.rv_export.proofs.left.Left.note.Goals as goal

pub returns : goal.returns
returns c =
    on_ok_weaker c.put.result
    (λ put past keeps number_is tick_is other. put other
    ∙ ap (λ (before : Option Begun). newer other c.begun_by.result before) (keeps other)
    ∙ ap (λ (it : Option Begun). newer other it (last_left other past))
    (c.begun_by.ensures ∙ ap (λ (call : Option Body). option_map (since c.args.number c.args.tick) call) c.left_by.ensures
    ∙ ap (λ (n : ℕ). option_map (since n c.args.tick) (left_by (whole c.args.entry.now))) number_is
    ∙ ap (λ (t : ℕ). option_map (since (suc (length past)) t) (left_by (whole c.args.entry.now))) tick_is))
    c.put.ensures
