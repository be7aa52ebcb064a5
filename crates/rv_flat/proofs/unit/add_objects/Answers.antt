use Rattle.std.proofs.Common.{◌≡◌, ◌<◌, ◌≤◌, ap, sym, subst, ◌∙◌, arith, length, get_or, map}
use Rattle.std.specs.Prelude.{slice_get}
use Rattle.std.proofs.lemmas.Grind.{get_or_default_zero}
use Rattle.rv_code.specs.BodyView.{list_at}
use Rattle.rv_flat.specs.FlatUnits.{Every, IsObjectAmong, listed_in, object_in}
use Rattle.rv_flat.proofs.Units.{standing_start, standing_behind, standing_end, standing_kept, copy_stands, list_lasts, object_lasts}
use Rattle.rv_flat.proofs.unit.add_objects.Goals as goal

pub loop-list-init : goal.loop-list-init
loop-list-init c = λ a xs h. standing_start IsObjectAmong object_in (list_at c.args.unit.now.lists.items) a _ _ c.args.unit.now.objects.items xs
    (standing_kept (λ n. Every (IsObjectAmong n)) (λ ts. map (object_in ts)) (λ n. Every (IsObjectAmong n)) (λ ts. map (object_in ts)) a _ _ _ _ _ _ (list_lasts IsObjectAmong object_in object_lasts) h c.in_ok-lists.ensures)

pub loop-list-preserved : goal.loop-list-preserved
loop-list-preserved c =
    let objects = c.args.unit.now.objects.items in
    let list = get_or objects c.loop-list.list-index 0 in
    let lt : c.loop-list.list-index < length objects = omega (arith, ap length c.deref-list-items.ensures.value) in
    let read : get_or c.deref-list-items.result.now c.loop-list.list-index 0 ≡ list = ap (λ xs. get_or xs c.loop-list.list-index 0) c.deref-list-items.ensures.value in
    let among : c.deref.result.now ≡ c.in_ok-lists.lists.items = c.deref.ensures.value in
    λ a xs h. standing_behind IsObjectAmong object_in (list_at c.args.unit.now.lists.items) a _ _ _ _ objects c.loop-list.list-index list c.in_ok-copy.copy xs object_lasts lt
    (sym (get_or_default_zero objects c.loop-list.list-index list lt)) c.in_ok-push.ensures.items (c.loop-list.invariant a xs h)
    (copy_stands _ _ _ c.args.unit.now.lists.items list c.in_ok-copy.copy c.in_ok-lists.ensures
    (λ ts. c.in_ok-copy.ensures.bodies ts ∙ (λ i. listed_in ts (slice_get (among i) (read i))))
    (λ n all. c.in_ok-copy.ensures.among n (subst (Every (IsObjectAmong n)) (sym among) all)))

pub returns : goal.returns
returns c =
    let le : length c.args.unit.now.objects.items ≤ c.loop-list.list-index = omega (arith, ap length c.deref-list-items.ensures.value) in
    λ a xs h. standing_end IsObjectAmong object_in (list_at c.args.unit.now.lists.items) a _ _ c.args.unit.now.objects.items c.loop-list.list-index xs le (c.loop-list.invariant a xs h)
