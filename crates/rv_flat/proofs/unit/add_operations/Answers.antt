use Rattle.std.proofs.Common.{◌≡◌, ◌<◌, ◌≤◌, ap, ◌∙◌, arith, length, get_or}
use Rattle.rv_code.specs.BodyView.{body_view}
use Rattle.rv_flat.specs.FlatView.{IsAmong, body_in}
use Rattle.rv_flat.proofs.Units.{standing_first, standing_next, standing_all, body_lasts, body_stands}
use Rattle.rv_flat.proofs.unit.add_operations.Goals as goal

pub loop-body-init : goal.loop-body-init
loop-body-init c = standing_first IsAmong body_in body_view _ _ c.args.bodies.now.items c.new-flat.ensures.items

pub loop-body-preserved : goal.loop-body-preserved
loop-body-preserved c =
    let lt : c.loop-body.body-index < length c.args.bodies.now.items = omega (arith, ap length c.deref-body-items.ensures.value) in
    let at : c.body-item.result ≡ get_or c.args.bodies.now.items c.loop-body.body-index c.body-item.result = c.body-item.is ∙ ap (λ xs. get_or xs c.loop-body.body-index c.body-item.result) c.deref-body-items.ensures.value in
    standing_next IsAmong body_in body_view _ _ _ _ _ c.args.bodies.now.items c.loop-body.body-index c.body-item.result c.in_ok-added.added body_lasts lt at c.in_ok-push.ensures.items c.loop-body.invariant (body_stands _ _ _ _ c.in_ok-added.ensures)

pub returns : goal.returns
returns c =
    let le : length c.args.bodies.now.items ≤ c.loop-body.body-index = omega (arith, ap length c.deref-body-items.ensures.value) in
    standing_all IsAmong body_in body_view _ _ _ c.args.bodies.now.items c.loop-body.body-index le c.loop-body.invariant
