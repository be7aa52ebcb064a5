use Rattle.std.proofs.Common.{◌≡◌, ◌<◌, ◌≤◌, ◌∙◌, ap, arith, length, get_or}
use Rattle.rv_flat.specs.FlatUnits.{object_in}
use Rattle.rv_machine.proofs.Needing.{objects_more, no_objects, objects_all}
use Rattle.rv_machine.proofs.needs.objects_high.Goals as goal

pub loop-object-init : goal.loop-object-init
loop-object-init c = λ ts call are. no_objects c.args.one call

pub loop-object-preserved : goal.loop-object-preserved
loop-object-preserved c = λ ts call are.
    let lt : c.loop-object.object-index < length c.args.objects.now.items = omega (arith, ap length c.deref-object-items.ensures.value) in
    let at : c.object-item.result ≡ get_or c.args.objects.now.items c.loop-object.object-index c.object-item.result = c.object-item.is ∙ ap (λ xs. get_or xs c.loop-object.object-index c.object-item.result) c.deref-object-items.ensures.value in
    let more = objects_more (object_in ts) c.args.one call c.loop-object.high c.operations_high.result c.args.objects.now.items c.loop-object.object-index c.object-item.result lt at (c.loop-object.invariant ts call are) (c.operations_high.ensures ts call are) in
    let is = c.higher-high.ensures in
    omega (arith, more, is)

pub returns : goal.returns
returns c = λ ts call are.
    let le : length c.args.objects.now.items ≤ c.loop-object.object-index = omega (arith, ap length c.deref-object-items.ensures.value) in
    objects_all (object_in ts) c.args.one call c.loop-object.high c.args.objects.now.items c.loop-object.object-index le (c.loop-object.invariant ts call are)
