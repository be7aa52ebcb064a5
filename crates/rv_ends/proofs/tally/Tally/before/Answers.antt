use Rattle.std.proofs.Common.{sym, ◌∙◌}
use Rattle.std.proofs.lemmas.Result.{on_ok_weaker}
use Rattle.rv_ends.proofs.Counting.{notes_end, notes_nothing, notes_other}
use Rattle.rv_ends.proofs.tally.Tally.before.Goals as goal

pub returns-then-not-goes_on : goal.returns-then-not-goes_on
returns-then-not-goes_on c =
    notes_nothing c.args.self.now c.args.host.now c.args.number c.args.actor c.args.request.now (sym c.goes_on.ensures ∙ c.if-not-goes_on.true)

pub returns-then-not-is_end : goal.returns-then-not-is_end
returns-then-not-is_end c =
    notes_other c.args.self.now c.args.host.now c.args.number c.args.actor c.args.request.now
    (sym c.goes_on.ensures ∙ c.if-not-goes_on.false) (sym c.is_end.ensures ∙ c.if-not-is_end.true)

pub returns : goal.returns
returns c =
    on_ok_weaker c.note.result
    (notes_end c.args.self.now c.note.new.self c.args.host.now c.args.number c.args.actor c.args.request.now
    (sym c.goes_on.ensures ∙ c.if-not-goes_on.false) c.replays.ensures.legal c.replays.ensures.most c.replays.ensures.solvent
    (sym c.is_end.ensures ∙ c.if-not-is_end.false)) c.note.ensures
