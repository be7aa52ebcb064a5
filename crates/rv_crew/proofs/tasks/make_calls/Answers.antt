use Rattle.std.proofs.Common.{◌≡◌, ◌<◌, true, false, rules, tests, arith}
use Rattle.rv_crew.specs.Tasks.{goes_on}
use Rattle.rv_port.specs.Ports.{pass_of}
use Rattle.rv_port.proofs.Performing.{stays_both}
use Rattle.rv_crew.proofs.Doing.{stops, goes}
use Rattle.rv_crew.proofs.tasks.make_calls.Goals as goal

pub returns-then-not-goes_on-clause-calls : goal.returns-then-not-goes_on-clause-calls
returns-then-not-goes_on-clause-calls g c =
    let last : goes_on c.call-reached.result ≡ false = search (rules, tests) in
    let some : 0 < c.loop-left.left = first_of (search rules, grind arith) in
    c.loop-left.invariant.leads c.call-reached.new.self (stops c.args.object c.args.operation c.loop-left.left c.new.result c.loop-left.port c.call-reached.new.self c.call-reached.result some c.new.ensures c.call-reached.ensures.performed last)

pub loop-left-preserved : goal.loop-left-preserved
loop-left-preserved g c =
    let more : goes_on c.call-reached.result ≡ true = search (rules, tests) in
    let some : 0 < c.loop-left.left = first_of (search rules, grind arith) in record {
      leads = λ w d. c.loop-left.invariant.leads w (goes c.args.object c.args.operation c.loop-left.left c.new.result c.loop-left.port c.call-reached.new.self w c.call-reached.result some c.new.ensures c.call-reached.ensures.performed more d);
      stays = stays_both (pass_of c.args.port.now) (pass_of c.loop-left.port) (pass_of c.call-reached.new.self) c.loop-left.invariant.stays c.call-reached.ensures.stays;
    }
