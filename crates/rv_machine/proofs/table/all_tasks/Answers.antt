use Rattle.std.proofs.Common.{◌++◌, ap, sym, subst, ◌∙◌, map, take}
use Rattle.rv_code.specs.BodyView.{maybe_body_view}
use Rattle.rv_exec.specs.Bodies.{all_of, shared_view}
use Rattle.rv_flat.specs.FlatUnits.{Standing, Every, IsTaskAmong, task_in}
use Rattle.rv_flat.specs.Tables.{trees}
use Rattle.rv_machine.proofs.Together.{tasks_more}
use Rattle.rv_machine.proofs.table.all_tasks.Goals as goal

pub loop-unit-preserved : goal.loop-unit-preserved
loop-unit-preserved c =
    subst (λ xs. Standing (λ n. Every (IsTaskAmong n)) (λ ts. map (task_in ts)) (trees c.args.code.now) (trees c.add_tasks.new.code) c.add_tasks.new.flat.items xs)
    (ap (λ u. (all_of (map shared_view (take c.loop-unit.unit-index c.args.units.now))).tasks ++ map maybe_body_view u.tasks.items) c.bodies.ensures
    ∙ sym (tasks_more c.args.units.now c.loop-unit.unit-index c.unit-item.result c.loop-unit-test.true c.unit-item.is))
    (c.in_ok-add_tasks.ensures (trees c.args.code.now) _ c.loop-unit.invariant)
