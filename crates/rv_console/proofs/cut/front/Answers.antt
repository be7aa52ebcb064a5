use Rattle.std.proofs.lemmas.Iterator.{YieldsList-from_chars, YieldsList-from_take, text_from_collect}
use Rattle.rv_console.proofs.cut.front.Goals as goal

pub returns : goal.returns
returns c =
    text_from_collect _ c.collect.ensures.ran
    (YieldsList-from_take c.args.count (YieldsList-from_chars c.args.line.now c.utf8.line (cc)) c.take.ensures.count)
