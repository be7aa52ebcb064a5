use Rattle.std.proofs.Common.{◌≡◌, ◌∙◌, true, rules, tests}
use Rattle.rv_event.specs.declared.entry.Request.TheVariants.{Settle}
use Rattle.rv_port.proofs.Asking.{sent_of}
use Rattle.rv_port.proofs.Settles.{one_more}
use Rattle.rv_port.proofs.asker.Asker.settle_dropped.Goals as goal

pub loop-preserved-in-Ok : goal.loop-preserved-in-Ok
loop-preserved-in-Ok g c =
    let dropped : c.loop.is_dropped ≡ true = search (rules, tests) in
    let given = sent_of c.loop.self.pass c.insist.new.self.pass Settle c.new-letter.result.request c.insist.new.letter.answer c.insist.new.letter.begun c.insist.new.letter.lent c.insist.result _ c.insist.ensures.reply c.new-letter.ensures c.in-Ok.is in
    record {
      behind = λ w s. c.loop.invariant.behind w (one_more c.loop.is_dropped c.drops-is_dropped.result c.loop.self.pass c.insist.new.self.pass w c.insist.new.letter.answer dropped c.drops-is_dropped.ensures given.0.asked s);
      mark = c.insist.ensures.mark ∙ c.loop.invariant.mark;
    }

pub loop-preserved : goal.loop-preserved
loop-preserved g c =
    let dropped : c.loop.is_dropped ≡ true = search (rules, tests) in
    let given = sent_of c.loop.self.pass c.insist.new.self.pass Settle c.new-letter.result.request c.insist.new.letter.answer c.insist.new.letter.begun c.insist.new.letter.lent c.insist.result _ c.insist.ensures.reply c.new-letter.ensures c.in-Ok.is in
    record {
      behind = λ w s. c.loop.invariant.behind w (one_more c.loop.is_dropped c.drops-is_dropped.result c.loop.self.pass c.insist.new.self.pass w c.insist.new.letter.answer dropped c.drops-is_dropped.ensures given.0.asked s);
      mark = c.insist.ensures.mark ∙ c.loop.invariant.mark;
    }
