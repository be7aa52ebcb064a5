use Rattle.std.proofs.Common.{◌<◌, ◌∙◌, length, arith}
use Rattle.rv_names.proofs.Used.{bodies_on}
use Rattle.rv_names.proofs.operation_body.operation_bodies.Goals as goal

pub loop-body-preserved : goal.loop-body-preserved
loop-body-preserved c =
    let lt : c.loop-body.body-index < length c.deref-body-items.result.now = omega arith in
    record {
      scope = c.in_ok-operation_body.ensures.scope ∙ c.loop-body.invariant.scope;
      faults = bodies_on c.args.scope.now c.loop-body.scope c.loop-body.faults c.operation_body.new.faults _ c.deref-body-items.result.now
          c.loop-body.body-index c.body-item.result c.body-item.is lt c.loop-body.invariant.scope c.in_ok-operation_body.ensures.faults c.loop-body.invariant.faults;
    }
