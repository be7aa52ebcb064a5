use Rattle.std.proofs.Common.{◌≡◌, ◌<◌, ◌≤◌, ap, subst, sym, ◌∙◌, arith, length, map, get_or}
use Rattle.rv_flat.specs.FlatView.{IsAmong, body_in}
use Rattle.rv_flat.specs.FlatUnits.{Every}
use Rattle.rv_flat.proofs.Units.{copied_all, copied_among, copied_bodies}
use Rattle.rv_flat.proofs.unit.copies.Goals as goal

pub loop-body-init : goal.loop-body-init
loop-body-init c = record {
  bodies = λ ts. ap (map (body_in ts)) c.new-copies.ensures.items;
  among = λ n all. subst (Every (IsAmong n)) (sym c.new-copies.ensures.items) tt;
}

pub loop-body-preserved : goal.loop-body-preserved
loop-body-preserved c =
    let lt : c.loop-body.body-index < length c.args.bodies.now.items = omega (arith, ap length c.deref-body-items.ensures.value) in
    let at : c.body-item.result ≡ get_or c.args.bodies.now.items c.loop-body.body-index c.body-item.result = c.body-item.is ∙ ap (λ xs. get_or xs c.loop-body.body-index c.body-item.result) c.deref-body-items.ensures.value in
    record {
      bodies = λ ts. copied_bodies ts _ _ c.args.bodies.now.items c.loop-body.body-index c.body-item.result c.in_ok-copy.copy lt at c.in_ok-push.ensures.items (c.loop-body.invariant.bodies ts) (c.in_ok-copy.ensures.body ts);
      among = λ n. copied_among n _ _ c.args.bodies.now.items c.loop-body.body-index c.body-item.result c.in_ok-copy.copy lt at c.in_ok-push.ensures.items (c.loop-body.invariant.among n) (c.in_ok-copy.ensures.among n);
    }

pub returns-clause-bodies : goal.returns-clause-bodies
returns-clause-bodies c =
    let le : length c.args.bodies.now.items ≤ c.loop-body.body-index = omega (arith, ap length c.deref-body-items.ensures.value) in
    λ ts. copied_all ts _ c.args.bodies.now.items c.loop-body.body-index le (c.loop-body.invariant.bodies ts)
