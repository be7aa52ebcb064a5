use Rattle.std.proofs.Common.{map, take}
use Rattle.rv_code.specs.BodyView.{body_view}
use Rattle.rv_flat.specs.FlatView.{IsAmong, body_in}
use Rattle.rv_flat.specs.FlatUnits.{Standing, Every}
use Rattle.rv_flat.specs.Tables.{trees}
use Rattle.rv_flat.proofs.unit.add_operations.Given as goal

abbrev pub invariant-loop-body : goal.invariant-loop-body
invariant-loop-body l = Standing (λ n. Every (IsAmong n)) (λ ts. map (body_in ts)) (trees l.fn.code) (trees l.code) l.flat.items (map body_view (take l.body-index l.bodies.items))
