use Rattle.std.proofs.Common.{rules, ◌≡◌, refl, arith, ◌-◌, get_or, map}
use Rattle.rv_code.specs.BodyView.{declaration_view}
use Rattle.rv_flat.specs.Trees.{as_declarations}
use Rattle.rv_flat.proofs.Adding.{declarations_stand, kept, behind_all, none_left, list_grows}
use Rattle.rv_flat.proofs.body.add_declarations.Goals as goal

pub loop-left-init : goal.loop-left-init
unfolding as_declarations
loop-left-init c = none_left as_declarations (map declaration_view) _ c.args.declarations.now.items c.len-left.result refl (Prim.search rules)

pub loop-left-preserved : goal.loop-left-preserved
loop-left-preserved c =
    let at : c.index-declaration.result.now ≡ get_or c.args.declarations.now.items (c.loop-left.left - 1) c.index-declaration.result.now = Prim.search (rules, c.index-declaration.ensures) in
    let inv = c.loop-left.invariant.1 in
    let h = c.in_ok-first.ensures in
    list_grows as_declarations (map declaration_view) _ _ c.args.declarations.now.items c.loop-left.left _ c.index-declaration.result.now (omega arith) c.loop-left.invariant.0 at
    (declarations_stand _ _ _ _ _ _ _ _ _ (behind_all _ _ _ _ _ _ _ _ _ inv h) (kept _ _ _ _ _ _ _ _ _ inv h) c.in_ok-rest.ensures)
