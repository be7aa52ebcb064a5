use Rattle.std.proofs.Common.{arith, ◌<◌, length}
use Rattle.rv_scope.proofs.Scopes.{declares_on}
use Rattle.rv_conform.proofs.Formals.{formals_on, scope_on}
use Rattle.rv_conform.proofs.operation.formals.Goals as goal

pub loop-part-preserved : goal.loop-part-preserved
loop-part-preserved c =
    let lt : c.loop-part.part-index < length c.deref-part-items.result.now = omega arith in
    record {
      value = formals_on c.args.statics.now c.loop-part.scope c.parameter.new.scope c.loop-part.done.items c.parameter.new.done.items _ c.deref-part-items.result.now
          c.loop-part.part-index c.part-item.result c.part-item.is lt c.in_ok-parameter.ensures.done c.in_ok-parameter.ensures.scope c.loop-part.invariant.value;
      scope = scope_on c.loop-part.scope c.parameter.new.scope _ c.deref-part-items.result.now
          c.loop-part.part-index c.part-item.result c.part-item.is lt c.in_ok-parameter.ensures.scope c.loop-part.invariant.scope;
      only = declares_on c.args.scope.now c.loop-part.scope c.parameter.new.scope c.loop-part.invariant.only c.in_ok-parameter.ensures.only;
    }
