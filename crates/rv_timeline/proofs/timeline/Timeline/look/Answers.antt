use Rattle.std.proofs.lemmas.Result.{on_ok_weaker}
use Rattle.rv_timeline.proofs.Looking.{looks_all}
use Rattle.rv_timeline.proofs.timeline.Timeline.look.Goals as goal

pub returns : goal.returns
returns c =
    on_ok_weaker c.look_for_refusal.result
    (λ four. looks_all c.args.self.now c.look_for_waits.new.self c.look_for_bodies.new.self c.look_for_delays.new.self c.look_for_refusal.new.self c.args.host.now c.args.number c.args.actor c.args.request.now c.args.word c.in_ok-look_for_waits.ensures c.in_ok-look_for_bodies.ensures c.in_ok-look_for_delays.ensures four) c.look_for_refusal.ensures
