use Rattle.std.proofs.Common.{◌+◌, arith, rules}
use Rattle.std.specs.Str.Lines.{lines}
use Rattle.rv_check.proofs.Stepping.{fault_behind, count_behind, counts_not}
use Rattle.rv_check.proofs.steps.count_steps.Goals as goal

pub returns-in-Err : goal.returns-in-Err
returns-in-Err c =
    let inv = c.loop-text.invariant in
    counts_not c.args.catalogue.now (c.loop-text.line + 1) c.in-Some.text.now (lines c.loop-text.rest.now) (lines c.in-Some.after.now) (c.args.part.now.line + 1) (lines c.args.part.now.text.now) c.in-Err.failure
    c.in-Some.ensures.lines inv.faults c.in-Err.ensures

pub loop-text-preserved : goal.loop-text-preserved
loop-text-preserved c =
    let inv = c.loop-text.invariant in
    record {
      text = search rules;
      few = omega (arith, c.in-Some.ensures.shorter);
      less = omega (arith, c.steps_on-count.ensures.few);
      faults = fault_behind c.args.catalogue.now (c.loop-text.line + 1) c.in-Some.text.now (lines c.loop-text.rest.now) (lines c.in-Some.after.now) _ c.in-Some.ensures.lines inv.faults c.in-Ok.ensures;
      counted = count_behind c.loop-text.count c.steps_on-count.result c.in-Some.text.now (lines c.loop-text.rest.now) (lines c.in-Some.after.now) _ c.in-Some.ensures.lines c.steps_on-count.ensures.value inv.counted;
    }
