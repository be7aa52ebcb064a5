use Rattle.std.proofs.Common.{sym, ◌∙◌}
use Rattle.rv_port.proofs.Asked.{quits_explained}
use Rattle.rv_port.proofs.Performing.{quits_stays}
use Rattle.rv_port.proofs.port.finishing.quit.Goals as goal

pub returns-clause-stays : goal.returns-clause-stays
returns-clause-stays g c = quits_stays c.args.asker.now.pass c.ask_quit.new.asker.pass c.ask_quit.ensures.quits

pub returns-clause-explains : goal.returns-clause-explains
returns-clause-explains g c = λ old is. quits_explained c.args.asker.now.pass c.ask_quit.new.asker.pass c.ask_quit.ensures.quits c.args.asker.now.owns (old (sym c.ask_quit.ensures.mark ∙ is))
