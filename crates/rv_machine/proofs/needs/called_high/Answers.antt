use Rattle.std.proofs.Common.{◌≡◌, ◌<◌, arith}
use Rattle.rv_flat.specs.FlatUnits.{flat_view}
use Rattle.rv_machine.proofs.Needing.{small_over}
use Rattle.rv_machine.proofs.Rises.{no_level, level_behind, level_last, levels_last}
use Rattle.rv_machine.proofs.needs.called_high.Goals as goal

pub loop-init : goal.loop-init
loop-init c = no_level c.args.one (flat_view c.args.unit.now)

pub returns-then-high-call : goal.returns-then-high-call
returns-then-high-call c = level_last c.args.one (flat_view c.args.unit.now) c.loop.counter c.loop.call c.in_ok-high.high c.loop-test.true c.loop.invariant c.in_ok-high.ensures c.if-high-call.true

pub loop-preserved : goal.loop-preserved
loop-preserved c =
    let more : c.loop.call < c.in_ok-high.high = omega (arith, c.if-high-call.false) in
    level_behind c.args.one (flat_view c.args.unit.now) c.loop.counter c.loop.call c.in_ok-high.high c.loop.invariant c.in_ok-high.ensures more

pub returns : goal.returns
returns c =
    let all : c.loop.counter ≡ 16 = omega (arith, c.loop-test.false, c.loop.auto.counter-end) in
    small_over c.small.result _ _ c.small.ensures
    (levels_last c.args.one (flat_view c.args.unit.now) c.loop.counter c.loop.call c.in_ok-high-2.high c.saturating_sub-each.result all c.loop.invariant c.in_ok-high-2.ensures c.saturating_sub-each.ensures)
