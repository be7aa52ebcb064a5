use Rattle.std.proofs.Common.{[], map}
use Rattle.rv_flat.specs.FlatUnits.{Every, IsObjectAmong, IsTaskAmong, object_in, task_in}
use Rattle.rv_flat.proofs.Units.{standing_kept, standing_empty, list_lasts, object_lasts}
use Rattle.rv_flat.proofs.unit.FlatUnit.of.Goals as goal

pub returns : goal.returns
returns c =
    let h = c.in_ok-add_objects.ensures _ [] (standing_empty IsObjectAmong object_in _ _ c.new-objects.ensures.items) in
    let k = c.in_ok-add_tasks.ensures _ [] (standing_empty IsTaskAmong task_in _ _ c.new-tasks.ensures.items) in
    let kept = standing_kept (λ n. Every (IsObjectAmong n)) (λ ts. map (object_in ts)) (λ n. Every (IsTaskAmong n)) (λ ts. map (task_in ts)) _ _ _ _ _ _ _ (list_lasts IsObjectAmong object_in object_lasts) h k in
    λ i. record { objects = kept.is i; tasks = k.is i }
