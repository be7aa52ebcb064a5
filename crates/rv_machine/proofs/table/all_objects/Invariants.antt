use Rattle.std.proofs.Common.{map, take}
use Rattle.rv_exec.specs.Bodies.{all_of, shared_view}
use Rattle.rv_flat.specs.FlatUnits.{Standing, Every, IsObjectAmong, object_in}
use Rattle.rv_flat.specs.Tables.{trees}
use Rattle.rv_machine.proofs.table.all_objects.Given as goal

abbrev pub invariant-loop-unit : goal.invariant-loop-unit
invariant-loop-unit l = Standing (λ n. Every (IsObjectAmong n)) (λ ts. map (object_in ts)) (trees l.fn.code) (trees l.code) l.flat.items (all_of (map shared_view (take l.unit-index l.units))).objects
