use Rattle.std.proofs.Common.{◌++◌, ap, sym, subst, ◌∙◌, map, take}
use Rattle.rv_code.specs.BodyView.{unit_view}
use Rattle.rv_exec.specs.Bodies.{all_of, shared_view}
use Rattle.rv_flat.specs.FlatUnits.{Standing, Every, IsObjectAmong, object_in}
use Rattle.rv_flat.specs.Tables.{trees}
use Rattle.rv_machine.proofs.Together.{objects_more}
use Rattle.rv_machine.proofs.table.all_objects.Goals as goal

pub loop-unit-preserved : goal.loop-unit-preserved
loop-unit-preserved c =
    subst (λ xs. Standing (λ n. Every (IsObjectAmong n)) (λ ts. map (object_in ts)) (trees c.args.code.now) (trees c.add_objects.new.code) c.add_objects.new.flat.items xs)
    (ap (λ u. (all_of (map shared_view (take c.loop-unit.unit-index c.args.units.now))).objects ++ (unit_view u).objects) c.bodies.ensures
    ∙ sym (objects_more c.args.units.now c.loop-unit.unit-index c.unit-item.result c.loop-unit-test.true c.unit-item.is))
    (c.in_ok-add_objects.ensures (trees c.args.code.now) _ c.loop-unit.invariant)
