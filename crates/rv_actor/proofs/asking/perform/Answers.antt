use Rattle.std.proofs.Common.{◌≡◌, rules, arith, to_z, of_z, w64}
use Rattle.rv_actor.proofs.Asked.{called, clock_read, delayed}
use Rattle.rv_actor.proofs.asking.perform.Goals as goal

pub returns-in-Call-clause-does : goal.returns-in-Call-clause-does
returns-in-Call-clause-does g c =
    called c.args.request c.in-Call.object c.in-Call.operation c.in-Call.values c.call.result c.args.port.now c.call.new.self c.in-Call.is c.call.ensures.performed

pub returns-in-DelayUntil-clause-does : goal.returns-in-DelayUntil-clause-does
returns-in-DelayUntil-clause-does g c =
    let same : to_z w64 (of_z w64 c.in-DelayUntil.time) ≡ c.in-DelayUntil.time = first_of (search rules, grind arith) in
    delayed c.args.request c.in-DelayUntil.time (to_z w64 (of_z w64 c.in-DelayUntil.time)) c.delay_until.result c.args.port.now c.delay_until.new.self c.in-DelayUntil.is same c.delay_until.ensures.performed

pub returns-in-Clock-clause-does : goal.returns-in-Clock-clause-does
returns-in-Clock-clause-does g c = clock_read c.args.request c.clock.result c.args.port.now c.clock.new.self c.in-Clock.is c.clock.ensures.performed
