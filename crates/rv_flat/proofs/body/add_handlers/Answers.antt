use Rattle.std.proofs.Common.{rules, ◌≡◌, refl, arith, ◌-◌, get_or, map}
use Rattle.rv_code.specs.BodyView.{handler_view}
use Rattle.rv_flat.specs.Trees.{as_handlers}
use Rattle.rv_flat.proofs.Adding.{handlers_stand, kept, behind_all, none_left, list_grows}
use Rattle.rv_flat.proofs.body.add_handlers.Goals as goal

pub loop-left-init : goal.loop-left-init
unfolding as_handlers
loop-left-init c = none_left as_handlers (map handler_view) _ c.args.handlers.now.items c.len-left.result refl (Prim.search rules)

pub loop-left-preserved : goal.loop-left-preserved
loop-left-preserved c =
    let at : c.index-handler.result.now ≡ get_or c.args.handlers.now.items (c.loop-left.left - 1) c.index-handler.result.now = Prim.search (rules, c.index-handler.ensures) in
    let inv = c.loop-left.invariant.1 in
    let h = c.in_ok-first.ensures in
    let g = c.in_ok-second.ensures in
    let first = behind_all _ _ _ _ _ _ _ _ _ inv h in
    list_grows as_handlers (map handler_view) _ _ c.args.handlers.now.items c.loop-left.left _ c.index-handler.result.now (omega arith) c.loop-left.invariant.0 at
    (handlers_stand _ _ _ _ _ _ _ _ _ _ (kept _ _ _ _ _ _ _ _ _ first g) (behind_all _ _ _ _ _ _ _ _ _ first g) (kept _ _ _ _ _ _ _ _ _ (kept _ _ _ _ _ _ _ _ _ inv h) g) c.in_ok-rest.ensures)
