use Rattle.std.proofs.lemmas.Result.{on_ok_weaker}
use Rattle.rv_export.proofs.Keeping.{noted}
use Rattle.rv_export.proofs.kept.Kept.note.Goals as goal

pub returns : goal.returns
returns c =
    on_ok_weaker c.note_rest.result
    (λ rest. noted c.args.self.now c.note_body.new.self c.note_rest.new.self c.args.host.now c.args.number c.args.actor c.args.request.now c.args.word c.in_ok-note_body.ensures rest) c.note_rest.ensures
