use Rattle.rv_tree.specs.NameView.{identifier_view}
use Rattle.std.proofs.Common.{ap, refl}
use Rattle.rv_types.specs.Points.{PointView}
use Rattle.rv_types.proofs.Ended.{body_left}
use Rattle.rv_types.proofs.body.task_body.Goals as goal

pub returns-clause-scope : goal.returns-clause-scope
returns-clause-scope c =
    body_left c.args.around c.enter_body.new.self c.enter_body.new.self c.into_scope-scope.result c.leave_body.new.self c.new-point.result c.block.new.point
    (identifier_view c.args.body.now.name) c.in_ok-outer.outer c.leave_body.ensures c.in_ok-outer.ensures.scope c.in_ok-outer.ensures.around
    refl (ap (λ (x : PointView). x.scope) c.new-point.ensures)
    c.in_ok-compiled.ensures.only c.into_scope-scope.ensures
