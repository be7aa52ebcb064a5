use Rattle.std.proofs.Common.{◌≤◌, length, arith}
use Rattle.rv_never.specs.Nevers.{OfUnit}
use Rattle.rv_never.proofs.Adding.{all_by, more_by, none_by}
use Rattle.rv_never.proofs.judge.add_call_denials.Goals as goal

pub loop-calls-init : goal.loop-calls-init
loop-calls-init c = none_by (OfUnit c.args.catalogue.now c.args.list.now c.args.clock) c.args.units.now c.args.notes.now.items

pub loop-calls-preserved : goal.loop-calls-preserved
loop-calls-preserved c =
    more_by (OfUnit c.args.catalogue.now c.args.list.now c.args.clock) c.args.units.now c.loop-calls.calls-index c.calls-item.result c.args.notes.now.items c.loop-calls.notes.items c.add_unit_denials.new.notes.items c.loop-calls-test.true
    c.calls-item.is c.loop-calls.invariant c.in_ok-add_unit_denials.ensures

pub returns : goal.returns
returns c =
    let past : length c.args.units.now ≤ c.loop-calls.calls-index = omega (arith, c.loop-calls-test.false) in
    all_by (OfUnit c.args.catalogue.now c.args.list.now c.args.clock) c.args.units.now c.loop-calls.calls-index c.args.notes.now.items c.loop-calls.notes.items past c.loop-calls.invariant
