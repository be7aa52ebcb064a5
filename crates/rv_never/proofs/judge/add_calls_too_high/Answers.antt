use Rattle.std.proofs.Common.{◌≤◌, length, arith}
use Rattle.rv_never.specs.Nevers.{IsTooHighOf}
use Rattle.rv_never.proofs.Adding.{all_by, more_at, none_by}
use Rattle.rv_never.proofs.judge.add_calls_too_high.Goals as goal

pub loop-called-init : goal.loop-called-init
loop-called-init c = none_by (IsTooHighOf c.args.catalogue.now c.args.actor) c.args.calls.now c.args.notes.now.items

pub loop-called-preserved : goal.loop-called-preserved
loop-called-preserved c =
    more_at (IsTooHighOf c.args.catalogue.now c.args.actor) c.args.calls.now c.loop-called.called-index _ c.args.notes.now.items c.loop-called.notes.items c.add_too_high.new.notes.items c.loop-called-test.true
    c.loop-called.invariant c.in_ok-add_too_high.ensures

pub returns : goal.returns
returns c =
    let past : length c.args.calls.now ≤ c.loop-called.called-index = omega (arith, c.loop-called-test.false) in
    all_by (IsTooHighOf c.args.catalogue.now c.args.actor) c.args.calls.now c.loop-called.called-index c.args.notes.now.items c.loop-called.notes.items past c.loop-called.invariant
