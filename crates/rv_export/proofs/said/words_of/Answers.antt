use Rattle.std.proofs.Common.{arith}
use Rattle.rv_export.proofs.Finding.{words_more}
use Rattle.rv_export.proofs.said.words_of.Goals as goal

pub loop-line-preserved : goal.loop-line-preserved
loop-line-preserved c =
    words_more c.loop-line.words.items c.push.new.self.items c.in_ok-text.field-0 c.args.lines.now c.loop-line.line-index c.line-item.result c.in_ok-push.ensures.items (omega arith) c.line-item.is c.in_ok-text.ensures c.loop-line.invariant
