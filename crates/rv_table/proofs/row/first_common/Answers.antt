use Rattle.std.proofs.Common.{arith}
use Rattle.rv_table.proofs.Marks.{none_more, none_before}
use Rattle.rv_table.proofs.row.first_common.Goals as goal

pub returns-in-Some-clause-first : goal.returns-in-Some-clause-first
returns-in-Some-clause-first c =
    let low = c.in-Some.ensures.some in
    none_before c.args.ours.now c.args.theirs.now c.loop-w.w c.in-Some.place (omega (arith, low.small)) c.loop-w.invariant.none low.none

pub loop-w-preserved : goal.loop-w-preserved
loop-w-preserved c = record {
  within = omega (arith, c.loop-w-test.true);
  none = none_more c.args.ours.now c.args.theirs.now c.loop-w.w c.loop-w.invariant.none c.in_default.ensures.none;
}
