use Rattle.std.proofs.Common.{◌≡◌, ◌∙◌, true, false, rules, tests}
use Rattle.rv_port.specs.Traces.{asked_again}
use Rattle.rv_port.proofs.Asking.{vain_again, settled}
use Rattle.rv_port.proofs.asker.Asker.insist.Goals as goal

pub loop-preserved : goal.loop-preserved
loop-preserved g c = let again : asked_again c.is_lasting-lasting.result c.try_ask.new.letter.answer ≡ true = search (rules, tests) in record {
  vain = vain_again c.args.self.now.pass c.loop.self.pass c.try_ask.new.self.pass c.args.letter.now.request c.loop.letter.request c.try_ask.new.letter.answer c.try_ask.new.letter.begun c.try_ask.new.letter.lent c.try_ask.result _ c.loop.invariant.vain c.loop.invariant.request c.try_ask.ensures.reply c.in-Ok.is
      c.is_lasting-lasting.result c.is_lasting-lasting.ensures again;
  request = c.try_ask.ensures.request ∙ c.loop.invariant.request;
  mark = c.try_ask.ensures.mark ∙ c.loop.invariant.mark;
}

pub returns-then-not-is_asked_again-clause-reply : goal.returns-then-not-is_asked_again-clause-reply
returns-then-not-is_asked_again-clause-reply g c = let calm : asked_again c.is_lasting-lasting.result c.try_ask.new.letter.answer ≡ false = search (rules, tests) in
    settled c.args.self.now.pass c.loop.self.pass c.try_ask.new.self.pass c.args.letter.now.request c.loop.letter.request c.try_ask.new.letter.answer c.try_ask.new.letter.begun c.try_ask.new.letter.lent c.try_ask.result _ c.loop.invariant.vain c.loop.invariant.request c.try_ask.ensures.reply c.in-Ok.is
    c.is_lasting-lasting.result calm
