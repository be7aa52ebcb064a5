use Rattle.std.proofs.Common.{◌≡◌, true, rules, tests}
use Rattle.rv_attend.specs.Again.{TakesRoom}
use Rattle.rv_attend.proofs.AskedAgain.{again_later, asked_again}
use Rattle.rv_attend.proofs.asking.answer_request.Goals as goal

pub returns-clause-again : goal.returns-clause-again
returns-clause-again g c =
    let is : c.takes_room.result ≡ true = search (rules, tests) in
    let takes : TakesRoom c.args.line.now = c.takes_room.ensures is in
    asked_again c.args.session.now.staff c.ask_again-asked.new.session.staff c.ask_again-asked.ensures.asks.0 (g.W.Write.contents c.args.writer.now)
    (g.W.Write.contents c.told-next.new.writer) (g.W.Write.contents c.after.new.writer) c.args.line.now c.told-next.result c.after.result
    c.ask_again-asked.ensures.crew c.ask_again-asked.ensures.asks.1 (c.told-next.ensures.serves _ _ _ takes c.ask_again-asked.ensures.asks.2) c.told-next.ensures.go
    c.after.ensures

pub returns-clause-later : goal.returns-clause-later
returns-clause-later g c =
    let is : c.takes_room.result ≡ true = search (rules, tests) in
    let takes : TakesRoom c.args.line.now = c.takes_room.ensures is in
    again_later c.args.session.now.staff.control c.ask_again-asked.ensures.asks.0 c.ask_again-asked.new.session.staff.control (g.W.Write.contents c.args.writer.now)
    (g.W.Write.contents c.told-next.new.writer) c.args.line.now c.told-next.result c.ask_again-asked.ensures.asks.1
    (c.told-next.ensures.serves _ _ _ takes c.ask_again-asked.ensures.asks.2)
