use Rattle.std.proofs.Common.{◌∙◌, ap, arith, false}
use Rattle.rv_scope.specs.declared.known.Known.TheVariants as k
use Rattle.rv_types.specs.Points.{PointView, in_bounds, with_loop_parameter}
use Rattle.rv_types.proofs.Ended.{loop_ended}
use Rattle.rv_types.proofs.point.Point.end_loop.Goals as goal

pub returns : goal.returns
returns c p i range h =
    let e = c.self.view_is ∙ h in
    loop_ended _ p i range _ _ _ e
    (c.leave.ensures p.scope (with_loop_parameter i range (in_bounds i p)).scope.innermost (ap (λ (x : PointView). x.scope) e))
    (c.pop.ensures p.locals (record { at = i.at; known = k.Variable p.slots range false }) (ap (λ (x : PointView). x.locals) e))
    (omega (arith, ap (λ (x : PointView). x.slots) e))
