use Rattle.std.proofs.Common.{Ok, Err, zero, suc, refl, rules}
use Rattle.rv_pipes.proofs.Carried.{ended, one_more}
use Rattle.rv_pipes.proofs.carrier.Carrier.carry_all.Goals as goal

pub loop-init : goal.loop-init
loop-init g c = record { goes = (tt, tt); carried = (zero, refl) }

pub loop-preserved : goal.loop-preserved
loop-preserved g c = let was = c.loop.invariant in record {
  goes = (tt, tt);
  carried = (suc was.carried.0, one_more was.carried.0 _ _ _ _ c.carry_next.result (search rules) was.carried.1 c.carry_next.ensures);
}

pub returns-in-Ok-Out : goal.returns-in-Ok-Out
returns-in-Ok-Out g c = let was = c.loop.invariant in
    ended was.carried.0 _ _ _ _ c.carry_next.result (Ok tt) (search rules) was.carried.1 c.carry_next.ensures

pub returns-in-Err : goal.returns-in-Err
returns-in-Err g c = let was = c.loop.invariant in
    ended was.carried.0 _ _ _ _ c.carry_next.result (Err c.in-Err.e) (search rules) was.carried.1 c.carry_next.ensures
