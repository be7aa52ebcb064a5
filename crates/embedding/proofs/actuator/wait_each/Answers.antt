use Rattle.std.proofs.Common.{◌∙◌, suc}
use Rattle.embedding.proofs.Calling.{asked_more}
use Rattle.embedding.proofs.actuator.wait_each.Goals as goal

pub returns-in_default : goal.returns-in_default
returns-in_default g c = let was = c.loop.invariant in record {
  asks = (suc was.0.0, asked_more c.args.actuator.object c.args.actuator.entry was.0.0 c.new.result c.call-reached.result c.args.port.now c.loop.port c.call-reached.new.self c.new.ensures was.0.1 c.call-reached.ensures.performed);
  stays = (c.call-reached.ensures.stays.turn ∙ was.1, c.call-reached.ensures.stays.actor ∙ was.2);
}

pub loop-preserved : goal.loop-preserved
loop-preserved g c = let was = c.loop.invariant in (
  (suc was.0.0, asked_more c.args.actuator.object c.args.actuator.entry was.0.0 c.new.result c.call-reached.result c.args.port.now c.loop.port c.call-reached.new.self c.new.ensures was.0.1 c.call-reached.ensures.performed),
  c.call-reached.ensures.stays.turn ∙ was.1,
  c.call-reached.ensures.stays.actor ∙ was.2,
)
