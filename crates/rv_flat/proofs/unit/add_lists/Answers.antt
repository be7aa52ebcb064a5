use Rattle.std.proofs.Common.{◌≡◌, ◌<◌, ◌≤◌, ap, ◌∙◌, arith, length, get_or}
use Rattle.rv_code.specs.BodyView.{object_view}
use Rattle.rv_flat.specs.FlatUnits.{IsObjectAmong, object_in}
use Rattle.rv_flat.proofs.Units.{standing_first, standing_next, standing_all, object_lasts}
use Rattle.rv_flat.proofs.unit.add_lists.Goals as goal

pub loop-list-init : goal.loop-list-init
loop-list-init c = standing_first IsObjectAmong object_in object_view _ _ c.args.lists.now.items c.new-flat.ensures.items

pub loop-list-preserved : goal.loop-list-preserved
loop-list-preserved c =
    let lt : c.loop-list.list-index < length c.args.lists.now.items = omega (arith, ap length c.deref-list-items.ensures.value) in
    let at : c.list-item.result ≡ get_or c.args.lists.now.items c.loop-list.list-index c.list-item.result = c.list-item.is ∙ ap (λ xs. get_or xs c.loop-list.list-index c.list-item.result) c.deref-list-items.ensures.value in
    standing_next IsObjectAmong object_in object_view _ _ _ _ _ c.args.lists.now.items c.loop-list.list-index c.list-item.result c.in_ok-added.added object_lasts lt at c.in_ok-push.ensures.items c.loop-list.invariant c.in_ok-added.ensures

pub returns : goal.returns
returns c =
    let le : length c.args.lists.now.items ≤ c.loop-list.list-index = omega (arith, ap length c.deref-list-items.ensures.value) in
    standing_all IsObjectAmong object_in object_view _ _ _ c.args.lists.now.items c.loop-list.list-index le c.loop-list.invariant
