use Rattle.rv_behind.specs.declared.event.Ask.TheVariants as Wants
use Rattle.rv_behind.specs.declared.event.Reply.{Reply}
use Rattle.rv_port.proofs.Fitting.{act_fits}
use Rattle.rv_port.proofs.Actors.{act_handles, act_owns}
use Rattle.rv_port.proofs.Holding.{counts_lent, few_lent}
use Rattle.rv_port.proofs.asker.Asker.borrow.Goals as goal

pub invariant_of-self-clause-handles : goal.invariant_of-self-clause-handles
invariant_of-self-clause-handles g c = act_handles c.args.self.now.pass c.act.new.self Wants.Bodies (λ (r : Reply). r) _ c.args.self.now.handles c.act.ensures

pub invariant_of-self-clause-fits : goal.invariant_of-self-clause-fits
invariant_of-self-clause-fits g c = act_fits c.args.self.now.pass c.act.new.self Wants.Bodies (λ (r : Reply). r) _ c.args.self.now.fits c.act.ensures

pub invariant_of-self-clause-owns : goal.invariant_of-self-clause-owns
invariant_of-self-clause-owns g c = act_owns c.args.self.now.pass c.act.new.self Wants.Bodies (λ (r : Reply). r) _ c.args.self.now.owns c.act.ensures

pub invariant_of-self-clause-counts : goal.invariant_of-self-clause-counts
invariant_of-self-clause-counts g c = counts_lent c.args.self.now.pass c.act.new.self c.act.result c.args.self.now.held c.act.ensures c.args.self.now.owns c.args.self.now.counts

pub invariant_of-self-clause-few : goal.invariant_of-self-clause-few
invariant_of-self-clause-few g c = few_lent c.args.self.now.pass c.act.new.self c.act.result c.args.self.now.held _ c.act.ensures c.args.self.now.few
