use Rattle.std.proofs.Common.{◌<◌, length, arith}
use Rattle.rv_input.proofs.WholeLines.{cut_first, lines_first}
use Rattle.rv_input.proofs.whole.first_line.Goals as goal

pub returns-clause-lines : goal.returns-clause-lines
returns-clause-lines c =
    let within : c.feed_at-at.result < length c.args.bytes.now = omega arith in
    lines_first c.args.bytes.now _ _ c.feed_at-at.result c.feed_at-at.ensures within c.split_at.ensures.front c.split_at-2.ensures.back

pub returns-clause-whole : goal.returns-clause-whole
returns-clause-whole c =
    let within : c.feed_at-at.result < length c.args.bytes.now = omega arith in
    cut_first c.args.bytes.now _ _ c.feed_at-at.result c.feed_at-at.ensures within c.split_at.ensures.front c.split_at-2.ensures.back
