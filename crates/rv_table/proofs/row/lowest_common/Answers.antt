use Rattle.std.proofs.Common.{◌<◌, arith}
use Rattle.std.specs.Prelude.{◌^◌}
use Rattle.rv_table.proofs.Marks.{lowest}
use Rattle.rv_table.proofs.row.lowest_common.Goals as goal

pub returns-clause-some : goal.returns-clause-some
returns-clause-some c =
    let small : c.args.ours < 2 ^ 64 = omega (arith, c.ranges.ours.fits) in
    lowest c.args.ours c.args.theirs small c.if-both-eq0.false
