use Rattle.std.proofs.Common.{◌∙◌, ℕ, List, ap, drop, map, sym}
use Rattle.rv_code.specs.BodyView.{list_at}
use Rattle.rv_ranged.specs.Ranged.{objects_ranged}
use Rattle.rv_ranged.proofs.Ends.{objects_end}
use Rattle.rv_ranged.proofs.operation.objects_ranged.Goals as goal

pub returns-in_default : goal.returns-in_default
returns-in_default c =
    let lists = c.args.bodies.now.lists.items in
    sym (objects_end c.args.units.now c.loop-list.left.now (map (list_at lists) (drop c.loop-list.list-index c.deref-list-items.result.now)) c.in_default.len_below)
    ∙ (c.loop-list.invariant ∙ ap (λ (ls : List ℕ). objects_ranged c.args.units.now c.args.objects.now (map (list_at lists) ls)) c.deref-list-items.ensures.value)
