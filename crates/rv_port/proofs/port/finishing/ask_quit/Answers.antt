use Rattle.std.proofs.Common.{◌≡◌, false, rules, tests}
use Rattle.std.specs.Prelude.{nat_lt}
use Rattle.rv_port.proofs.Asking.{once_of}
use Rattle.rv_port.proofs.Performing.{quit_by}
use Rattle.rv_port.proofs.port.finishing.ask_quit.Goals as goal

pub returns-clause-quits : goal.returns-clause-quits
returns-clause-quits g c = let is : nat_lt c.args.asker.now.pass.actor 11 ≡ false = search (rules, tests) in
    quit_by (nat_lt c.args.asker.now.pass.actor 11) c.args.asker.now.pass c.try_ask.new.self.pass c.new-letter.result.request c.try_ask.new.letter.answer c.try_ask.new.letter.begun c.try_ask.new.letter.lent is c.new-letter.ensures
    (once_of c.args.asker.now.pass c.try_ask.new.self.pass c.new-letter.result.request c.try_ask.new.letter.answer c.try_ask.new.letter.begun c.try_ask.new.letter.lent c.try_ask.result _ c.try_ask.ensures.reply c.in-Ok.is)
