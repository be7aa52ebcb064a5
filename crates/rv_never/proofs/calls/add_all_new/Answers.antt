use Rattle.std.proofs.Common.{◌≤◌, length, arith}
use Rattle.rv_never.proofs.Same.{all_added, none_added, one_added}
use Rattle.rv_never.proofs.calls.add_all_new.Goals as goal

pub loop-called-init : goal.loop-called-init
loop-called-init c = none_added c.args.calls.now.items c.args.others.now

pub loop-called-preserved : goal.loop-called-preserved
loop-called-preserved c =
    one_added c.args.calls.now.items c.loop-called.calls.items c.add_new.new.calls.items c.args.others.now c.loop-called.called-index _ c.loop-called-test.true
    c.loop-called.invariant c.in_ok-add_new.ensures

pub returns : goal.returns
returns c =
    let past : length c.args.others.now ≤ c.loop-called.called-index = omega (arith, c.loop-called-test.false) in
    all_added c.args.calls.now.items c.loop-called.calls.items c.args.others.now c.loop-called.called-index past c.loop-called.invariant
