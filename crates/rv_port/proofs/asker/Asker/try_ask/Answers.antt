use Rattle.std.proofs.Common.{Ok, ◌∙◌}
use Rattle.rv_behind.specs.declared.event.Ask.TheVariants as Wants
use Rattle.rv_behind.specs.declared.event.Reply.TheVariants as Gives
use Rattle.rv_port.proofs.Fitting.{act_fits}
use Rattle.rv_port.proofs.Actors.{act_handles, act_owns}
use Rattle.rv_port.proofs.Asking.{replied_act}
use Rattle.rv_port.proofs.Holding.{counts_replied, few_replied, past_sent}
use Rattle.rv_port.proofs.asker.Asker.try_ask.Goals as goal

pub invariant_of-self-2-clause-handles : goal.invariant_of-self-2-clause-handles
invariant_of-self-2-clause-handles g c = act_handles c.args.self.now.pass c.send.new.self (Wants.Step c.args.letter.now.request) (λ _. Gives.Answered c.send.new.letter.answer c.send.new.letter.begun c.send.new.letter.lent) c.send.result c.args.self.now.handles c.send.ensures.reply

pub invariant_of-self-2-clause-fits : goal.invariant_of-self-2-clause-fits
invariant_of-self-2-clause-fits g c = act_fits c.args.self.now.pass c.send.new.self (Wants.Step c.args.letter.now.request) (λ _. Gives.Answered c.send.new.letter.answer c.send.new.letter.begun c.send.new.letter.lent) c.send.result c.args.self.now.fits c.send.ensures.reply

pub invariant_of-self-2-clause-owns : goal.invariant_of-self-2-clause-owns
invariant_of-self-2-clause-owns g c = act_owns c.args.self.now.pass c.send.new.self (Wants.Step c.args.letter.now.request) (λ _. Gives.Answered c.send.new.letter.answer c.send.new.letter.begun c.send.new.letter.lent) c.send.result c.args.self.now.owns c.send.ensures.reply

pub invariant_of-self-2-clause-counts : goal.invariant_of-self-2-clause-counts
invariant_of-self-2-clause-counts g c = counts_replied c.args.self.now.pass c.send.new.self c.args.letter.now.request c.send.new.letter.answer c.send.new.letter.begun c.send.new.letter.lent c.send.result c.args.self.now.held c.held_past-self.result
    (replied_act c.args.self.now.pass c.send.new.self c.args.letter.now.request c.send.new.letter.answer c.send.new.letter.begun c.send.new.letter.lent c.send.result c.send.ensures.reply) c.args.self.now.owns c.args.self.now.counts c.in-Ok.is
    (c.held_past-self.ensures ∙ past_sent c.send.new.letter.request c.args.letter.now.request c.args.self.now.held c.send.new.letter.answer c.send.ensures.asked)

pub invariant_of-self-2-clause-few : goal.invariant_of-self-2-clause-few
invariant_of-self-2-clause-few g c = few_replied c.args.self.now.pass c.send.new.self c.args.letter.now.request c.send.new.letter.answer c.send.new.letter.begun c.send.new.letter.lent c.send.result c.args.self.now.held c.held_past-self.result _
    (replied_act c.args.self.now.pass c.send.new.self c.args.letter.now.request c.send.new.letter.answer c.send.new.letter.begun c.send.new.letter.lent c.send.result c.send.ensures.reply) c.args.self.now.few c.in-Ok.is
    (c.held_past-self.ensures ∙ past_sent c.send.new.letter.request c.args.letter.now.request c.args.self.now.held c.send.new.letter.answer c.send.ensures.asked)

pub returns-clause-reply : goal.returns-clause-reply
returns-clause-reply g c = replied_act c.args.self.now.pass c.send.new.self c.args.letter.now.request c.send.new.letter.answer c.send.new.letter.begun c.send.new.letter.lent (Ok c.in-Ok.field-0) c.in-Ok.ensures.reply

pub invariant_of-self-clause-fits : goal.invariant_of-self-clause-fits
invariant_of-self-clause-fits g c = act_fits c.args.self.now.pass c.send.new.self (Wants.Step c.args.letter.now.request) (λ _. Gives.Answered c.send.new.letter.answer c.send.new.letter.begun c.send.new.letter.lent) c.send.result c.args.self.now.fits c.send.ensures.reply

pub invariant_of-self-clause-handles : goal.invariant_of-self-clause-handles
invariant_of-self-clause-handles g c = act_handles c.args.self.now.pass c.send.new.self (Wants.Step c.args.letter.now.request) (λ _. Gives.Answered c.send.new.letter.answer c.send.new.letter.begun c.send.new.letter.lent) c.send.result c.args.self.now.handles c.send.ensures.reply

pub invariant_of-self-clause-owns : goal.invariant_of-self-clause-owns
invariant_of-self-clause-owns g c = act_owns c.args.self.now.pass c.send.new.self (Wants.Step c.args.letter.now.request) (λ _. Gives.Answered c.send.new.letter.answer c.send.new.letter.begun c.send.new.letter.lent) c.send.result c.args.self.now.owns c.send.ensures.reply
