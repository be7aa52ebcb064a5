use Rattle.std.proofs.lemmas.Result.{on_ok_weaker}
use Rattle.rv_reading.specs.Reads.{told}
use Rattle.rv_state.proofs.Moments.{then_follows}
use Rattle.rv_state.proofs.state.StateObserver.after.Goals as goal

pub returns : goal.returns
returns c =
    on_ok_weaker c.look.result
    (λ looks. then_follows c.args.self.now c.look.new.self c.after.new.self c.args.units.now c.args.host.now (told c.args.deed.now) c.args.answer.now c.in_ok-after.ensures looks) c.look.ensures
