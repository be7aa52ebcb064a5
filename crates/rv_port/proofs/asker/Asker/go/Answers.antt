use Rattle.std.proofs.Common.{◌≡◌, ◌∙◌, ap, Bool, true, false, rules, tests}
use Rattle.std.specs.Prelude.{is_some}
use Rattle.rv_event.specs.declared.entry.Answer.{Answer}
use Rattle.rv_port.specs.Reaching.{waits_on, plain_of, start_of}
use Rattle.rv_port.proofs.Asking.{sent_of}
use Rattle.rv_port.proofs.Performing.{started_had, waited, first_plain, starts, unstarted}
use Rattle.rv_port.proofs.asker.Asker.go.Goals as goal

pub run_begun-requires : goal.run_begun-requires
run_begun-requires g c = ap (λ (z : Answer). is_some (start_of z)) c.in-Started.is

pub returns-in-Started : goal.returns-in-Started
returns-in-Started g c =
    let given = sent_of c.args.self.now.pass c.insist.new.self.pass c.args.request.now c.new-letter.result.request c.insist.new.letter.answer c.insist.new.letter.begun c.insist.new.letter.lent c.insist.result _ c.insist.ensures.reply c.new-letter.ensures c.in-Ok.is in
    started_had c.args.self.now.pass c.insist.new.self.pass c.run_begun.new.self.pass c.args.self.now.is_refused c.insist.new.self.is_refused c.run_begun.new.self.is_refused c.args.request.now c.insist.new.letter.answer c.insist.new.letter.begun c.insist.new.letter.lent c.in-Started.field-0 c.run_begun.result
    given.0 given.1 c.in-Started.is c.insist.ensures.mark c.run_begun.ensures

pub returns-then-is_wait : goal.returns-then-is_wait
returns-then-is_wait g c =
    let given = sent_of c.args.self.now.pass c.insist.new.self.pass c.args.request.now c.new-letter.result.request c.insist.new.letter.answer c.insist.new.letter.begun c.insist.new.letter.lent c.insist.result _ c.insist.ensures.reply c.new-letter.ensures c.in-Ok.is in
    let e : waits_on c.insist.new.letter.answer ≡ true = search (rules, tests) in
    waited c.args.self.now.pass c.insist.new.self.pass c.resume.new.self.pass c.args.self.now.is_refused c.insist.new.self.is_refused c.resume.new.self.is_refused c.args.request.now c.insist.new.letter.answer c.insist.new.letter.begun c.insist.new.letter.lent
    c.resume.result given.0 given.1 e c.insist.ensures.mark c.resume.ensures

pub returns : goal.returns
returns g c =
    let given = sent_of c.args.self.now.pass c.insist.new.self.pass c.args.request.now c.new-letter.result.request c.insist.new.letter.answer c.insist.new.letter.begun c.insist.new.letter.lent c.insist.result _ c.insist.ensures.reply c.new-letter.ensures c.in-Ok.is in
    let plain : starts c.insist.new.letter.answer ≡ false = unstarted c.insist.new.letter.answer c.in_default-answer.not-Started in
    let e : waits_on c.insist.new.letter.answer ≡ false = search (rules, tests) in
    first_plain c.args.self.now.pass c.insist.new.self.pass c.args.self.now.is_refused c.insist.new.self.is_refused c.args.request.now c.insist.new.letter.answer c.insist.new.letter.begun c.insist.new.letter.lent c.plain.result given.0 given.1 c.insist.ensures.mark plain e (c.plain.ensures ∙ ap (λ (z : Bool). plain_of z c.insist.new.letter.answer) c.reads.ensures)
