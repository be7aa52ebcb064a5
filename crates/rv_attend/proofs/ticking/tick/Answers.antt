use Rattle.std.proofs.Common.{◌∙◌, rules}
use Rattle.std.specs.Time.{instant_nanos}
use Rattle.rv_attend.proofs.Ticked.{one_further}
use Rattle.rv_attend.proofs.ticking.tick.Goals as goal

pub loop-now-preserved : goal.loop-now-preserved
loop-now-preserved g c = (
  one_further c.args.staff.now.control c.loop-now.staff.control c.ask.new.staff.control c.args.pace.now c.loop-now.pace c.step-ticks.new.self (instant_nanos c.args.now) c.step-ticks.result
      c.loop-now.invariant.0 c.step-ticks.ensures.given c.step-ticks.ensures.asked (search rules) c.ask.ensures.asks,
  c.ask.ensures.crew ∙ c.loop-now.invariant.1,
)
