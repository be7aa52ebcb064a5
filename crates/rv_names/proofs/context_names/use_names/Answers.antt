use Rattle.std.proofs.Common.{◌<◌, length, arith}
use Rattle.rv_names.proofs.Used.{uses_on, scope_on}
use Rattle.rv_names.proofs.context_names.use_names.Goals as goal

pub loop-one-preserved : goal.loop-one-preserved
loop-one-preserved c =
    let lt : c.loop-one.one-index < length c.deref-one-items.result.now = omega arith in
    record {
      faults = uses_on c.loop-one.scope c.use_name.new.scope c.loop-one.faults c.name.new.faults _ c.deref-one-items.result.now
          c.loop-one.one-index c.one-item.result c.one-item.is lt c.in_ok-use_name.ensures c.name.ensures c.loop-one.invariant.faults;
      scope = scope_on c.loop-one.scope c.use_name.new.scope _ c.deref-one-items.result.now
          c.loop-one.one-index c.one-item.result c.one-item.is lt c.in_ok-use_name.ensures c.loop-one.invariant.scope;
    }
