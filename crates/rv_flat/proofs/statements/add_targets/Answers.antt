use Rattle.std.proofs.Common.{rules, ◌≡◌, refl, arith, ◌-◌, get_or}
use Rattle.rv_flat.specs.Trees.{as_targets}
use Rattle.rv_flat.proofs.Adding.{targets_stand, none_left, list_grows}
use Rattle.rv_flat.proofs.statements.add_targets.Goals as goal

pub loop-left-init : goal.loop-left-init
unfolding as_targets
loop-left-init c = none_left as_targets (λ xs. xs) _ c.args.targets.now.items c.len-left.result refl (Prim.search rules)

pub loop-left-preserved : goal.loop-left-preserved
loop-left-preserved c =
    let at : c.index.result.now ≡ get_or c.args.targets.now.items (c.loop-left.left - 1) c.index.result.now = Prim.search (rules, c.index.ensures) in
    list_grows as_targets (λ xs. xs) _ _ c.args.targets.now.items c.loop-left.left _ c.index.result.now (omega arith) c.loop-left.invariant.0 at
    (targets_stand _ _ _ _ _ _ _ c.loop-left.invariant.1 c.in_ok-rest.ensures)
