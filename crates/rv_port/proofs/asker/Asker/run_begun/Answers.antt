use Rattle.std.proofs.Common.{◌≡◌, ◌∙◌, ap, sym, Some}
use Rattle.std.specs.Option.{option_copied}
use Rattle.rv_port.specs.Reaching.{start_of}
use Rattle.rv_port.proofs.Performing.{ran_behind}
use Rattle.rv_port.proofs.asker.Asker.run_begun.Goals as goal

pub returns : goal.returns
returns g c =
    let is : start_of c.args.letter.now.answer ≡ Some c.in-Some.scalars.now = sym c.start_of.ensures ∙ ap option_copied c.in-Some.is in
    ran_behind c.args.letter.now.lent c.args.self.now.pass c.run-exit.new.asker.pass c.end_body.new.self.pass c.args.self.now.is_refused c.run-exit.new.asker.is_refused c.end_body.new.self.is_refused c.args.begun (start_of c.args.letter.now.answer) c.in-Some.scalars.now c.arguments_of-args.result c.args.request.now c.run-exit.new.request c.run-exit.result c.end_body.result c.run-exit.new.asker.held c.args.self.now.held
    is c.arguments_of-args.ensures c.run-exit.ensures c.run-exit.new.asker.owns c.run-exit.new.asker.counts c.args.self.now.counts c.end_body.ensures.ends c.end_body.ensures.mark
