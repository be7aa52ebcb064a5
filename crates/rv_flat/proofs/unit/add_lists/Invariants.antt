use Rattle.std.proofs.Common.{map, take}
use Rattle.rv_code.specs.BodyView.{object_view}
use Rattle.rv_flat.specs.FlatUnits.{Standing, Every, IsObjectAmong, object_in}
use Rattle.rv_flat.specs.Tables.{trees}
use Rattle.rv_flat.proofs.unit.add_lists.Given as goal

abbrev pub invariant-loop-list : goal.invariant-loop-list
invariant-loop-list l = Standing (λ n. Every (IsObjectAmong n)) (λ ts. map (object_in ts)) (trees l.fn.code) (trees l.code) l.flat.items (map object_view (take l.list-index l.lists.items))
