use Rattle.std.proofs.Common.{◌≡◌, ◌<◌, ◌≤◌, ◌∙◌, ap, arith, length, get_or}
use Rattle.rv_flat.specs.FlatView.{body_in}
use Rattle.rv_machine.proofs.Needing.{operations_more, no_operations, operations_all}
use Rattle.rv_machine.proofs.needs.operations_high.Goals as goal

pub loop-body-init : goal.loop-body-init
loop-body-init c = λ ts call are. no_operations c.args.one call

pub loop-body-preserved : goal.loop-body-preserved
loop-body-preserved c = λ ts call are.
    let lt : c.loop-body.body-index < length c.args.operations.now.items = omega (arith, ap length c.deref-body-items.ensures.value) in
    let at : c.body-item.result ≡ get_or c.args.operations.now.items c.loop-body.body-index c.body-item.result = c.body-item.is ∙ ap (λ xs. get_or xs c.loop-body.body-index c.body-item.result) c.deref-body-items.ensures.value in
    let more = operations_more (body_in ts) c.args.one call c.loop-body.high c.body_high.result c.args.operations.now.items c.loop-body.body-index c.body-item.result lt at (c.loop-body.invariant ts call are) (c.body_high.ensures ts call are) in
    let is = c.higher-high.ensures in
    omega (arith, more, is)

pub returns : goal.returns
returns c = λ ts call are.
    let le : length c.args.operations.now.items ≤ c.loop-body.body-index = omega (arith, ap length c.deref-body-items.ensures.value) in
    operations_all (body_in ts) c.args.one call c.loop-body.high c.args.operations.now.items c.loop-body.body-index le (c.loop-body.invariant ts call are)
