use Rattle.std.proofs.lemmas.Result.{on_ok_weaker}
use Rattle.rv_explained.proofs.Tying.{ties_noted}
use Rattle.rv_explained.proofs.ties.Ties.note.Goals as goal

pub returns : goal.returns
returns c =
    on_ok_weaker c.note_rest.result
    (λ rest. ties_noted c.args.self.now c.note_waits.new.self c.note_bodies.new.self c.note_rest.new.self c.args.host.now c.args.number c.args.actor c.args.request.now c.args.word c.in_ok-note_waits.ensures c.in_ok-note_bodies.ensures rest) c.note_rest.ensures
