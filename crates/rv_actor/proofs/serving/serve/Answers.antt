use Rattle.std.proofs.Common.{Ok, Err, zero, suc, refl, rules}
use Rattle.rv_port.specs.Ports.{pass_of}
use Rattle.rv_port.proofs.Performing.{stays_both, stays_self}
use Rattle.rv_actor.proofs.Served.{ended, one_more}
use Rattle.rv_actor.proofs.serving.serve.Goals as goal

pub loop-init : goal.loop-init
loop-init g c = record { goes = (tt, tt); served = (zero, refl); stays = stays_self (pass_of c.args.port.now) }

pub loop-preserved : goal.loop-preserved
loop-preserved g c = let was = c.loop.invariant in record {
  goes = (tt, tt);
  served = (suc was.served.0, one_more _ was.served.0 _ _ _ c.serve_next.result (search rules) was.served.1 c.serve_next.ensures.serves);
  stays = stays_both (pass_of c.args.port.now) (pass_of c.loop.port) (pass_of c.serve_next.new.port) was.stays c.serve_next.ensures.stays;
}

pub returns-in-Ok-Out : goal.returns-in-Ok-Out
returns-in-Ok-Out g c = let was = c.loop.invariant in record {
  serves = ended _ was.served.0 _ _ _ c.serve_next.result (Ok tt) (search rules) was.served.1 c.serve_next.ensures.serves;
  stays = stays_both (pass_of c.args.port.now) (pass_of c.loop.port) (pass_of c.serve_next.new.port) was.stays c.serve_next.ensures.stays;
}

pub returns-in-Err : goal.returns-in-Err
returns-in-Err g c = let was = c.loop.invariant in record {
  serves = ended _ was.served.0 _ _ _ c.serve_next.result (Err c.in-Err.e) (search rules) was.served.1 c.serve_next.ensures.serves;
  stays = stays_both (pass_of c.args.port.now) (pass_of c.loop.port) (pass_of c.serve_next.new.port) was.stays c.serve_next.ensures.stays;
}
