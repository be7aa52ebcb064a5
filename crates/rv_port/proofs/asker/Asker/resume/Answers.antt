use Rattle.std.proofs.Common.{◌≡◌, ap, false, Some, rules, tests}
use Rattle.std.specs.Prelude.{is_some}
use Rattle.rv_event.specs.declared.entry.Answer.{Answer}
use Rattle.rv_port.specs.Reaching.{start_of}
use Rattle.rv_event.specs.declared.entry.Answer.TheVariants as Answers
use Rattle.rv_event.specs.declared.entry.Request.TheVariants.{Resume}
use Rattle.rv_port.proofs.Asking.{sent_of}
use Rattle.rv_port.proofs.Performing.{woken_had, not_woken, hands}
use Rattle.rv_port.proofs.asker.Asker.resume.Goals as goal

pub run_begun-requires : goal.run_begun-requires
run_begun-requires g c =
    let is : c.insist.new.letter.answer ≡ Answers.Woken (Some c.in-Woken-Some.field-0-0) = search rules in
    ap (λ (z : Answer). is_some (start_of z)) is

pub returns-in-Woken-Some : goal.returns-in-Woken-Some
returns-in-Woken-Some g c =
    let given = sent_of c.args.self.now.pass c.insist.new.self.pass Resume c.new-letter.result.request c.insist.new.letter.answer c.insist.new.letter.begun c.insist.new.letter.lent c.insist.result _ c.insist.ensures.reply c.new-letter.ensures c.in-Ok.is in
    let is : c.insist.new.letter.answer ≡ Answers.Woken (Some c.in-Woken-Some.field-0-0) = search rules in
    woken_had c.args.self.now.pass c.insist.new.self.pass c.run_begun.new.self.pass c.args.self.now.is_refused c.insist.new.self.is_refused c.run_begun.new.self.is_refused c.args.request.now c.insist.new.letter.answer c.insist.new.letter.begun c.insist.new.letter.lent c.in-Woken-Some.field-0-0 c.waited_for-begun.result c.run_begun.result
    given.0 given.1 is c.waited_for-begun.ensures c.insist.ensures.mark c.run_begun.ensures

pub returns : goal.returns
returns g c =
    let given = sent_of c.args.self.now.pass c.insist.new.self.pass Resume c.new-letter.result.request c.insist.new.letter.answer c.insist.new.letter.begun c.insist.new.letter.lent c.insist.result _ c.insist.ensures.reply c.new-letter.ensures c.in-Ok.is in
    let plain : hands c.insist.new.letter.answer ≡ false = search (rules, tests) in
    not_woken c.args.self.now.pass c.insist.new.self.pass c.args.self.now.is_refused c.insist.new.self.is_refused c.args.request.now c.insist.new.letter.answer c.insist.new.letter.begun c.insist.new.letter.lent c.plain.result given.0 given.1 c.insist.ensures.mark plain c.plain.ensures
