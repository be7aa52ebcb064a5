use Rattle.std.proofs.lemmas.Result.{on_ok_weaker}
use Rattle.rv_reading.specs.Reads.{told}
use Rattle.rv_state.proofs.Moments.{both_noted}
use Rattle.rv_state.proofs.state.StateObserver.before.Goals as goal

pub returns : goal.returns
returns c =
    on_ok_weaker c.note.result
    (λ noted. both_noted c.args.self.now c.before-2.new.self c.note.new.states c.args.units.now c.args.host.now c.args.number (told c.args.deed.now) c.in_ok-before.ensures noted) c.note.ensures
