use Rattle.std.proofs.Common.{◌≤◌, length, arith}
use Rattle.rv_never.specs.Nevers.{IsDenialOf}
use Rattle.rv_never.proofs.Adding.{all_by, more_at, none_by}
use Rattle.rv_never.proofs.judge.add_denials.Goals as goal

pub loop-called-init : goal.loop-called-init
loop-called-init c = none_by (IsDenialOf c.args.catalogue.now c.args.list.now c.args.clock c.args.unit) c.args.calls.now c.args.notes.now.items

pub loop-called-preserved : goal.loop-called-preserved
loop-called-preserved c =
    more_at (IsDenialOf c.args.catalogue.now c.args.list.now c.args.clock c.args.unit) c.args.calls.now c.loop-called.called-index _ c.args.notes.now.items c.loop-called.notes.items c.add_denial.new.notes.items c.loop-called-test.true
    c.loop-called.invariant c.in_ok-add_denial.ensures

pub returns : goal.returns
returns c =
    let past : length c.args.calls.now ≤ c.loop-called.called-index = omega (arith, c.loop-called-test.false) in
    all_by (IsDenialOf c.args.catalogue.now c.args.list.now c.args.clock c.args.unit) c.args.calls.now c.loop-called.called-index c.args.notes.now.items c.loop-called.notes.items past c.loop-called.invariant
