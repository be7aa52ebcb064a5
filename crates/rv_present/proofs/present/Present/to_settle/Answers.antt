use Rattle.std.proofs.Common.{sym}
use Rattle.rv_event.specs.Past.{unsettled}
use Rattle.rv_present.proofs.Leaving.{own_first}
use Rattle.rv_present.proofs.present.Present.to_settle.Goals as goal

pub returns : goal.returns
returns c = λ h k.
    sym (own_first (unsettled h.shapes h.past) c.args.self.now.unsettled c.args.self.now.bodies.objects c.args.actor c.of.result (sym c.of.ensures) k.unsettled_are)
