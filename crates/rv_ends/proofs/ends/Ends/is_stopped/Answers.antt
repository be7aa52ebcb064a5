use Rattle.rv_ends.specs.declared.ends.Stop.{Stop}
use Rattle.rv_ends.proofs.Whole.{whole_stopped}
use Rattle.rv_ends.proofs.ends.Ends.is_stopped.Goals as goal

pub returns-clause-whole : goal.returns-clause-whole
returns-clause-whole c = λ w.
    let stop : Stop = record { actor = c.args.actor; ask = c.args.ask.now } in
    whole_stopped c.args.self.now c.keep_stop.new.self c.args.host.now stop w (c.would_stop.ensures.stops c.if-not-would_stop.false)
    c.in_ok-keep_stop.ensures.same.0 c.in_ok-keep_stop.ensures.same.1 c.in_ok-keep_stop.ensures.stops
